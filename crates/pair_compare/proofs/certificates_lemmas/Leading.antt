-- Where alike nodes lead.
use Rattle.std.proofs.Common.{◌≡◌, ℕ, Bool, true, List, slice_get, Option, Some, None, refl, sym, ◌∙◌, ap}
use Rattle.std.specs.Prelude.{◌↔◌, is_some}
use Rattle.abi_types.specs.declared.kind.Way.{Way}
use Rattle.abi_types.specs.Types.{PlainView, PlainNode}
use Rattle.abi_types.specs.Graphs.{IsGraph, part_at, view_at, to_of}
use Rattle.abi_types.specs.ClassLooks.{part_seen, view_seen, Look}
use Rattle.pair_rules.specs.TypeRules.{breaks}
use Rattle.pair_rules.specs.Partners.{partner_at, IsPartner}
use Rattle.pair_rules.specs.Ways.{after}
use Rattle.pair_rules.specs.Steps.{PlainRoot, Task, Triple, is_marked, step, IsStep}
use Rattle.pair_rules.specs.Stable.{IsInside}
use Rattle.pair_rules.specs.Paths.{Path, PathLeadsTo, root_triple}
use Rattle.pair_rules.specs.Closed.{IsClosed, HoldsRoots}
use Rattle.type_classes.specs.Alike.{AreAlike}
use Rattle.pair_rules.proofs.lemmas.Parts.{after-seen}

-- what the rules say of steps and of alike nodes
pub record RuleLaws : Type 0 where
  pub steps : (t : Task) (x y : Triple) (i : ℕ) → (step t x i ≡ Some y) ↔ IsStep t x i y
  pub step_inside : (t : Task) (x y : Triple) (i : ℕ) → IsGraph t.old → IsGraph t.new → step t x i ≡ Some y → IsInside t y
  pub partners : (v w : PlainView) (i j : ℕ) → (partner_at v w i ≡ Some (i, j)) ↔ IsPartner v w i j
  pub nodes : (t : Task) (path : Path) (x : Triple) → IsGraph t.old → IsGraph t.new → ((k : ℕ) (root : PlainRoot) → slice_get t.roots k ≡ Some root → IsInside t (root_triple root)) → PathLeadsTo t path x → IsInside t x
  pub held : (t : Task) (r : Triple → Bool) (path : Path) (x : Triple) → IsClosed t r → HoldsRoots t r → PathLeadsTo t path x → r x ≡ true
  pub parts : (f : ℕ → ℕ) (v : PlainView) (i : ℕ) → part_at (view_seen f v) i ≡ part_seen f (part_at v i)
  pub old : (nodes : List PlainNode) (i j : ℕ) (w : PlainView) → AreAlike nodes i j → breaks (view_at nodes i) w ≡ breaks (view_at nodes j) w
  pub new : (nodes : List PlainNode) (i j : ℕ) (v : PlainView) → AreAlike nodes i j → breaks v (view_at nodes i) ≡ breaks v (view_at nodes j)
  pub old_partners : (nodes : List PlainNode) (i j : ℕ) (w : PlainView) (k : ℕ) → AreAlike nodes i j → partner_at (view_at nodes i) w k ≡ partner_at (view_at nodes j) w k
  pub new_partners : (nodes : List PlainNode) (i j : ℕ) (v : PlainView) (k : ℕ) → AreAlike nodes i j → partner_at v (view_at nodes i) k ≡ partner_at v (view_at nodes j) k

pub some_node : (o : Option ℕ) → is_some o ≡ true → (n : ℕ) × (o ≡ Some n)
some_node None e = absurd cc
some_node (Some n) e = (n, refl)

-- what parts of alike nodes name is alike
named_alike : (nodes : List PlainNode) (i j k a b : ℕ) → AreAlike nodes i j → to_of (part_at (view_at nodes i) k) ≡ Some a → to_of (part_at (view_at nodes j) k) ≡ Some b → AreAlike nodes a b
named_alike nodes i j k a b (r, is, h) to_a to_b = (r, is, is.parts i j k a b h to_a to_b)

module _ (laws : RuleLaws) where
  -- and it is reached by the same way
  after_alike : (nodes : List PlainNode) (i j k : ℕ) (way : Way) → AreAlike nodes i j → after way (part_at (view_at nodes i) k) ≡ after way (part_at (view_at nodes j) k)
  after_alike nodes i j k way (r, is, h) =
      let views : view_seen (λ _. 0) (view_at nodes i) ≡ view_seen (λ _. 0) (view_at nodes j) = ap (λ (l : Look). l.view) (is.shapes i j h) in
      sym (after-seen (λ _. 0) way (part_at (view_at nodes i) k))
      ∙ ap (after way) (sym (laws.parts (λ _. 0) (view_at nodes i) k) ∙ ap (λ (v : PlainView). part_at v k) views ∙ laws.parts (λ _. 0) (view_at nodes j) k)
      ∙ after-seen (λ _. 0) way (part_at (view_at nodes j) k)

  -- the triple leads along a part to one of nodes alike to those of another
  pub record GoesAlike (t : Task) (x : Triple) (i : ℕ) (y : Triple) : Type 0 where
    pub to : Triple
    pub stepped : step t x i ≡ Some to
    pub old : AreAlike t.old to.old y.old
    pub new : AreAlike t.new to.new y.new
    pub way : to.way ≡ y.way

  pub goes_alike : (t : Task) (x z y : Triple) (i : ℕ) → is_marked t x.old x.way ≡ is_marked t z.old z.way → AreAlike t.old x.old z.old → AreAlike t.new x.new z.new → x.way ≡ z.way → step t z i ≡ Some y → GoesAlike t x i y
  goes_alike t x z y i marked old new way stepped =
      let s = (laws.steps t z y i).0 stepped in
      let j = s.new_part in
      let there : partner_at (view_at t.old z.old) (view_at t.new z.new) i ≡ Some (i, j) = (laws.partners (view_at t.old z.old) (view_at t.new z.new) i j).1 s.partners in
      let here : partner_at (view_at t.old x.old) (view_at t.new x.new) i ≡ Some (i, j) =
      laws.old_partners t.old x.old z.old (view_at t.new x.new) i old ∙ laws.new_partners t.new x.new z.new (view_at t.old z.old) i new ∙ there in
      let p = (laws.partners (view_at t.old x.old) (view_at t.new x.new) i j).0 here in
      let a = some_node (to_of (part_at (view_at t.old x.old) i)) p.old_named in
      let b = some_node (to_of (part_at (view_at t.new x.new) j)) p.new_named in
      let to : Triple = record { old = a.0; new = b.0; way = after x.way (part_at (view_at t.old x.old) i) } in
      record {
        to = to;
        stepped = (laws.steps t x to i).1 (record { unmarked = marked ∙ s.unmarked; new_part = j; partners = p; old = a.1; new = b.1; way = refl });
        old = named_alike t.old x.old z.old i a.0 y.old old a.1 s.old;
        new = named_alike t.new x.new z.new j b.0 y.new new b.1 s.new;
        way = ap (λ (w : Way). after w (part_at (view_at t.old x.old) i)) way ∙ after_alike t.old x.old z.old i z.way old ∙ sym s.way;
      }
