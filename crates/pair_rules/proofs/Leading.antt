-- A step leads from nodes to nodes, and a closed relation holds all to which a path leads.
use Rattle.std.proofs.Common.{◌≡◌, ◌<◌, ℕ, Bool, true, false, length, slice_get, Option, Some, None, refl, sym, ◌∙◌, ap, inl, inr}
use Rattle.std.proofs.lemmas.Bool.{cases_Bool}
use Rattle.std.proofs.lemmas.Option.{same_Some, none-some}
use Rattle.abi_types.specs.declared.kind.Way.{Way}
use Rattle.abi_types.specs.Types.{PlainView}
use Rattle.abi_types.specs.Graphs.{part_at, view_at, to_of, IsGraph}
use Rattle.pair_rules.specs.Partners.{partner_at}
use Rattle.pair_rules.specs.Ways.{after}
use Rattle.pair_rules.specs.Steps.{Task, Triple, is_marked, triple_of, led_by, next_of, step, PlainRoot, IsStep}
use Rattle.pair_rules.specs.Stable.{IsInside}
use Rattle.pair_rules.specs.Paths.{Path, From, Then, PathLeadsTo, root_triple}
use Rattle.pair_rules.specs.Closed.{IsClosed, HoldsRoots}
use Rattle.pair_rules.proofs.Partnering.{IsPartner-from_some, some_from_IsPartner}
use Rattle.pair_rules.proofs.lemmas.Steps.{step-from_next}

triple_of-parts : (at : Way) (o m : Option ℕ) (y : Triple) → triple_of at o m ≡ Some y → (o ≡ Some y.old) × (m ≡ Some y.new) × (y.way ≡ at)
triple_of-parts at (Some a) (Some b) y e =
    let same = same_Some (record { old = a; new = b; way = at }) y e in
    (ap (λ x. Some x.old) same, ap (λ x. Some x.new) same, sym (ap (λ x. x.way) same))
triple_of-parts at (Some a) None y e = absurd (none-some y e)
triple_of-parts at None m y e = absurd (none-some y e)

-- what a step from two types along part i leads to: the nodes that the part and its match name
pub record IsNext (v w : PlainView) (at : Way) (i : ℕ) (y : Triple) : Type 0 where
  pub new_part : ℕ
  pub partners : partner_at v w i ≡ Some (i, new_part)
  pub old : to_of (part_at v i) ≡ Some y.old
  pub new : to_of (part_at w new_part) ≡ Some y.new
  pub way : y.way ≡ after at (part_at v i)

next_with : (v w : PlainView) (at : Way) (i : ℕ) (y : Triple) (o : Option (ℕ × ℕ)) → partner_at v w i ≡ o → led_by v w at o ≡ Some y → IsNext v w at i y
next_with v w at i y None is e = absurd (none-some y e)
next_with v w at i y (Some p) is e =
    let first = (IsPartner-from_some v w i p is).0 in
    let same : p ≡ (i, p.1) = ap (λ k. (k, p.1)) first in
    let parts = triple_of-parts (after at (part_at v p.0)) (to_of (part_at v p.0)) (to_of (part_at w p.1)) y e in
    record {
      new_part = p.1;
      partners = is ∙ ap (λ q. Some q) same;
      old = ap (λ k. to_of (part_at v k)) (sym first) ∙ parts.0;
      new = parts.1;
      way = parts.2 ∙ ap (λ k. after at (part_at v k)) first;
    }

pub IsNext-from_some : (v w : PlainView) (at : Way) (i : ℕ) (y : Triple) → next_of v w at i ≡ Some y → IsNext v w at i y
unfolding next_of
IsNext-from_some v w at i y e = next_with v w at i y (partner_at v w i) refl e

-- what a step is: the old node is unmarked at its way, and the types lead on
pub step-parts : (t : Task) (x y : Triple) (i : ℕ) → step t x i ≡ Some y → (is_marked t x.old x.way ≡ false) × (next_of (view_at t.old x.old) (view_at t.new x.new) x.way i ≡ Some y)
unfolding step
step-parts t x y i e =
    elim (cases_Bool (is_marked t x.old x.way)) [
      | inl marked ↦ absurd (none-some y (rw marked at e))
      | inr unmarked ↦ (unmarked, rw unmarked at e)
    ]

-- a step is what its parts say, both ways
pub IsStep-from_some : (t : Task) (x y : Triple) (i : ℕ) → step t x i ≡ Some y → IsStep t x i y
IsStep-from_some t x y i e =
    let parts = step-parts t x y i e in
    let next = IsNext-from_some (view_at t.old x.old) (view_at t.new x.new) x.way i y parts.1 in
    record {
      unmarked = parts.0;
      new_part = next.new_part;
      partners = (IsPartner-from_some (view_at t.old x.old) (view_at t.new x.new) i (i, next.new_part) next.partners).1;
      old = next.old;
      new = next.new;
      way = next.way;
    }

next_from : (v w : PlainView) (at : Way) (i j : ℕ) (y : Triple) → partner_at v w i ≡ Some (i, j) → to_of (part_at v i) ≡ Some y.old → to_of (part_at w j) ≡ Some y.new → y.way ≡ after at (part_at v i) → next_of v w at i ≡ Some y
unfolding next_of
next_from v w at i j y partners old new way =
    let mk : Way → Option Triple = λ u. Some (record { old = y.old; new = y.new; way = u }) in
    ap (led_by v w at) partners ∙ ap (λ o. triple_of (after at (part_at v i)) o (to_of (part_at w j))) old ∙ ap (triple_of (after at (part_at v i)) (Some y.old)) new ∙ ap mk (sym way)

pub some_from_IsStep : (t : Task) (x y : Triple) (i : ℕ) → IsStep t x i y → step t x i ≡ Some y
some_from_IsStep t x y i is =
    step-from_next t x i is.unmarked
    ∙ next_from (view_at t.old x.old) (view_at t.new x.new) x.way i is.new_part y (some_from_IsPartner (view_at t.old x.old) (view_at t.new x.new) i is.new_part is.partners) is.old is.new is.way

pub step-inside : (t : Task) (x y : Triple) (i : ℕ) → IsGraph t.old → IsGraph t.new → step t x i ≡ Some y → IsInside t y
step-inside t x y i old new e =
    let is = IsStep-from_some t x y i e in
    record { old = old.inside x.old i y.old is.old; new = new.inside x.new is.new_part y.new is.new }

-- where roots are nodes, paths lead to nodes
pub leads-inside : (t : Task) → IsGraph t.old → IsGraph t.new → ((k : ℕ) (root : PlainRoot) → slice_get t.roots k ≡ Some root → IsInside t (root_triple root)) → (path : Path) (x : Triple) → PathLeadsTo t path x → IsInside t x
leads-inside t old new roots (From export) x (k, root, at, is, e) = rw e (roots k root at)
leads-inside t old new roots (Then path part) y (x, leads, stepped) = step-inside t x y part old new stepped

pub related_from_path : (t : Task) (r : Triple → Bool) → IsClosed t r → HoldsRoots t r → (path : Path) (x : Triple) → PathLeadsTo t path x → r x ≡ true
related_from_path t r closed roots (From export) x leads = ap r leads.4 ∙ roots leads.0 leads.1 leads.2
related_from_path t r closed roots (Then path part) y leads =
    closed.leads_on leads.0 y part (related_from_path t r closed roots path leads.0 leads.1) leads.2
