-- Alike nodes: looks and what parts name, stable classes, and that alike is an equivalence.
use Rattle.std.proofs.Common.{◌≡◌, ◌+◌, ◌<◌, ℕ, zero, suc, ltb, eqb, Bool, true, ◌&&◌, List, [], ◌∷◌, length, map, get_or, Option, Some, None, refl, sym, ◌∙◌, ap, arith}
use Rattle.std.specs.Option.{option_map}
use Rattle.std.specs.List.{list_any, range_with_len}
use Rattle.std.proofs.lemmas.Bool.{eqb-true, eq-eqb, ltb-true, lt-ltb, and_parts, and_from}
use Rattle.std.proofs.lemmas.List.FromFn.{length-range_with_len, get_or-range_with_len}
use Rattle.std.proofs.lemmas.List.Folds.{Any-from_list_any, list_any_at}
use Rattle.abi_types.specs.Types.{PlainPart, Member, Enumerator, Target, Element, Outcome, Param, PlainView, PlainNode}
use Rattle.abi_types.specs.Graphs.{IsGraph, node_at, view_at, part_at, to_of}
use Rattle.pair_rules.specs.TypeRules.{breaks}
use Rattle.pair_rules.specs.Partners.{partner_at}
use Rattle.abi_types.specs.ClassLooks.{part_seen, view_seen, Look, look_of, shape_of}
use Rattle.type_classes.specs.Alike.{AreAlike}
use Rattle.pair_rules.specs.Stable.{IsStable}
use Rattle.pair_rules.proofs.lemmas.Parts.{named-seen}

-- ---- what parts name, with other numbers

-- ---- looks

part_seen-seen : (f : ℕ → ℕ) (p : PlainPart) → part_seen (λ _. 0) (part_seen f p) ≡ part_seen (λ _. 0) p
part_seen-seen f (Member name bit width to) = refl
part_seen-seen f (Enumerator name value) = refl
part_seen-seen f (Target to) = refl
part_seen-seen f (Element to) = refl
part_seen-seen f (Outcome to) = refl
part_seen-seen f (Param to) = refl

parts_seen-seen : (f : ℕ → ℕ) (ps : List PlainPart) → map (part_seen (λ _. 0)) (map (part_seen f) ps) ≡ map (part_seen (λ _. 0)) ps
parts_seen-seen f [] = refl
parts_seen-seen f (p ∷ ps) = rw (part_seen-seen f p, parts_seen-seen f ps) refl

view_seen-seen : (f : ℕ → ℕ) (v : PlainView) → view_seen (λ _. 0) (view_seen f v) ≡ view_seen (λ _. 0) v
unfolding view_seen
view_seen-seen f v = ap (λ (ps : List PlainPart). record v { parts = ps }) (parts_seen-seen f v.parts)

-- the look, in all but the nodes that parts name
shape_in : Look → Look
shape_in l = record { labels = l.labels; view = view_seen (λ _. 0) l.view }

shape_in-look : (f : ℕ → ℕ) (n : PlainNode) → shape_in (look_of f n) ≡ shape_of n
unfolding shape_in
shape_in-look f n = ap (λ (v : PlainView). let l : Look = record { labels = n.labels; view = v } in l) (view_seen-seen f n.view)

pub same_shape : (f : ℕ → ℕ) (m n : PlainNode) → look_of f m ≡ look_of f n → shape_of m ≡ shape_of n
same_shape f m n same = sym (shape_in-look f m) ∙ ap shape_in same ∙ shape_in-look f n

pub view_of_look : (f : ℕ → ℕ) (m n : PlainNode) → look_of f m ≡ look_of f n → view_seen f m.view ≡ view_seen f n.view
view_of_look f m n same = ap (λ (l : Look). l.view) same

labels_of_look : (f : ℕ → ℕ) (m n : PlainNode) → look_of f m ≡ look_of f n → m.labels ≡ n.labels
labels_of_look f m n same = ap (λ (l : Look). l.labels) same

-- what the parts of two views at one position name, where the views are equal apart from numbers of nodes
named_same : (f : ℕ → ℕ) (v w : PlainView) (k : ℕ) → view_seen f v ≡ view_seen f w → option_map f (to_of (part_at v k)) ≡ option_map f (to_of (part_at w k))
named_same f v w k same = sym (named-seen f v k) ∙ ap (λ (u : PlainView). to_of (part_at u k)) same ∙ named-seen f w k

some_same : (f : ℕ → ℕ) (o p : Option ℕ) (a b : ℕ) → option_map f o ≡ option_map f p → o ≡ Some a → p ≡ Some b → f a ≡ f b
some_same f o p a b same here there = let e : option_map f (Some a) ≡ option_map f (Some b) = ap (option_map f) (sym here) ∙ same ∙ ap (option_map f) there in cc

some_too : (f : ℕ → ℕ) (o p : Option ℕ) (a : ℕ) → option_map f o ≡ option_map f p → o ≡ Some a → (b : ℕ) × (p ≡ Some b)
some_too f o None a same here = let e : option_map f (Some a) ≡ option_map f None = ap (option_map f) (sym here) ∙ same in cc
some_too f o (Some b) a same here = (b, refl)

-- the part of a node of the same shape names a node too
pub named_too : (m n : PlainNode) (k a : ℕ) → shape_of m ≡ shape_of n → to_of (part_at m.view k) ≡ Some a → (b : ℕ) × (to_of (part_at n.view k) ≡ Some b)
named_too m n k a same here = some_too (λ _. 0) (to_of (part_at m.view k)) (to_of (part_at n.view k)) a (named_same (λ _. 0) m.view n.view k (view_of_look (λ _. 0) m n same)) here

-- ---- stable classes

-- two nodes of one class
together : List PlainNode → (ℕ → ℕ) → ℕ → ℕ → Bool
together nodes class x y = ltb x (length nodes) && ltb y (length nodes) && eqb (class x) (class y)

record AreTogether (nodes : List PlainNode) (class : ℕ → ℕ) (x y : ℕ) : Type 0 where
  one : x < length nodes
  other : y < length nodes
  same : class x ≡ class y

AreTogether-from : (nodes : List PlainNode) (class : ℕ → ℕ) (x y : ℕ) → together nodes class x y ≡ true → AreTogether nodes class x y
unfolding together
AreTogether-from nodes class x y h =
    let all = and_parts (ltb x (length nodes) && ltb y (length nodes)) (eqb (class x) (class y)) h in
    let inside = and_parts (ltb x (length nodes)) (ltb y (length nodes)) all.0 in
    record { one = ltb-true x (length nodes) inside.0; other = ltb-true y (length nodes) inside.1; same = eqb-true (class x) (class y) all.1 }

together_from : (nodes : List PlainNode) (class : ℕ → ℕ) (x y : ℕ) → x < length nodes → y < length nodes → class x ≡ class y → together nodes class x y ≡ true
unfolding together
together_from nodes class x y one other same =
    and_from (ltb x (length nodes) && ltb y (length nodes)) (eqb (class x) (class y)) (and_from (ltb x (length nodes)) (ltb y (length nodes)) (lt-ltb x (length nodes) one) (lt-ltb y (length nodes) other)) (eq-eqb (class x) (class y) same)

pub alike_from_stable : (nodes : List PlainNode) (class : ℕ → ℕ) → IsGraph nodes → IsStable nodes class → (i j : ℕ) → i < length nodes → j < length nodes → class i ≡ class j → AreAlike nodes i j
alike_from_stable nodes class graph stable i j i_in j_in e = (
  together nodes class,
  record {
    shapes = λ x y h. let t = AreTogether-from nodes class x y h in same_shape class (node_at nodes x) (node_at nodes y) (stable x y t.one t.other t.same);
    parts = λ x y k a b h to_a to_b.
        let t = AreTogether-from nodes class x y h in
        let same = view_of_look class (node_at nodes x) (node_at nodes y) (stable x y t.one t.other t.same) in
        together_from nodes class a b (graph.inside x k a to_a) (graph.inside y k b to_b) (some_same class (to_of (part_at (view_at nodes x) k)) (to_of (part_at (view_at nodes y) k)) a b (named_same class (view_at nodes x) (view_at nodes y) k same) to_a to_b);
  },
  together_from nodes class i j i_in j_in e,
)

-- ---- an equivalence

some_one : (o : Option ℕ) (a b : ℕ) → o ≡ Some a → o ≡ Some b → a ≡ b
some_one o a b here there = let e : Some a ≡ Some b = sym here ∙ there in cc

pub alike-reflexive : (nodes : List PlainNode) (i : ℕ) → AreAlike nodes i i
alike-reflexive nodes i = (
  eqb,
  record {
    shapes = λ x y h. ap (λ (z : ℕ). shape_of (node_at nodes z)) (eqb-true x y h);
    parts = λ x y k a b h to_a to_b. eq-eqb a b (some_one (to_of (part_at (view_at nodes x) k)) a b to_a (ap (λ (z : ℕ). to_of (part_at (view_at nodes z) k)) (eqb-true x y h) ∙ to_b));
  },
  eq-eqb i i refl,
)

pub alike-symmetric : (nodes : List PlainNode) (i j : ℕ) → AreAlike nodes i j → AreAlike nodes j i
alike-symmetric nodes i j (r, is, h) = (
  λ x y. r y x,
  record {
    shapes = λ x y e. sym (is.shapes y x e);
    parts = λ x y k a b e to_a to_b. is.parts y x k b a e to_b to_a;
  },
  h,
)

-- some number below a bound is related to the one and to the other
via : ℕ → (ℕ → ℕ → Bool) → (ℕ → ℕ → Bool) → ℕ → ℕ → Bool
via n r s x z = list_any (λ y. r x y && s y z) (range_with_len 0 n)

via_some : (n : ℕ) (r s : ℕ → ℕ → Bool) (x z : ℕ) → via n r s x z ≡ true → (y : ℕ) × (r x y ≡ true) × (s y z ≡ true)
unfolding via
via_some n r s x z e =
    let (i, y, below, at, holds) = Any-from_list_any (λ y. r x y && s y z) (range_with_len 0 n) e in
    let (one, two) = and_parts (r x y) (s y z) holds in
    (y, one, two)

via_from : (n : ℕ) (r s : ℕ → ℕ → Bool) (x y z : ℕ) → y < n → r x y ≡ true → s y z ≡ true → via n r s x z ≡ true
unfolding via
via_from n r s x y z inside p q =
    let at : get_or (range_with_len 0 n) y 0 ≡ 0 + y = get_or-range_with_len 0 n y 0 inside in
    let there : get_or (range_with_len 0 n) y 0 ≡ y = omega arith in
    let below : y < length (range_with_len 0 n) = rw (length-range_with_len 0 n) inside in
    list_any_at (λ w. r x w && s w z) (range_with_len 0 n) y 0 below (rw there (and_from (r x y) (s y z) p q))

pub alike-transitive : (nodes : List PlainNode) → IsGraph nodes → (i j k : ℕ) → j < length nodes → AreAlike nodes i j → AreAlike nodes j k → AreAlike nodes i k
alike-transitive nodes graph i j k inside (r, is, p) (s, others, q) = (
  via (length nodes) r s,
  record {
    shapes = λ x z e. let (y, one, two) = via_some (length nodes) r s x z e in is.shapes x y one ∙ others.shapes y z two;
    parts = λ x z at a c e to_a to_c.
        let (y, one, two) = via_some (length nodes) r s x z e in
        let (b, to_b) = named_too (node_at nodes x) (node_at nodes y) at a (is.shapes x y one) to_a in
        via_from (length nodes) r s a b c (graph.inside y at b to_b) (is.parts x y at a b one to_a to_b) (others.parts y z at b c two to_b to_c);
  },
  via_from (length nodes) r s i j k inside p q,
)

-- ---- rules

pub alike_views : (nodes : List PlainNode) (i j : ℕ) → AreAlike nodes i j → view_seen (λ _. 0) (view_at nodes i) ≡ view_seen (λ _. 0) (view_at nodes j)
alike_views nodes i j (r, is, h) = view_of_look (λ _. 0) (node_at nodes i) (node_at nodes j) (is.shapes i j h)

-- what the law of rules says: they see of the nodes that parts name nothing
pub record AreUnseen : Type 0 where
  pub breaks : (f g : ℕ → ℕ) (v w : PlainView) → breaks (view_seen f v) (view_seen g w) ≡ breaks v w
  pub partners : (f g : ℕ → ℕ) (v w : PlainView) (i : ℕ) → partner_at (view_seen f v) (view_seen g w) i ≡ partner_at v w i

module _ (unseen : AreUnseen) where
  breaks-unseen : (v v' w w' : PlainView) → view_seen (λ _. 0) v ≡ view_seen (λ _. 0) v' → view_seen (λ _. 0) w ≡ view_seen (λ _. 0) w' → breaks v w ≡ breaks v' w'
  breaks-unseen v v' w w' p q = sym (unseen.breaks (λ _. 0) (λ _. 0) v w) ∙ rw (p, q) (unseen.breaks (λ _. 0) (λ _. 0) v' w')

  partner_at-unseen : (v v' w w' : PlainView) (i : ℕ) → view_seen (λ _. 0) v ≡ view_seen (λ _. 0) v' → view_seen (λ _. 0) w ≡ view_seen (λ _. 0) w' → partner_at v w i ≡ partner_at v' w' i
  partner_at-unseen v v' w w' i p q = sym (unseen.partners (λ _. 0) (λ _. 0) v w i) ∙ rw (p, q) (unseen.partners (λ _. 0) (λ _. 0) v' w' i)

  pub same_breaks_old : (nodes : List PlainNode) (i j : ℕ) (w : PlainView) → AreAlike nodes i j → breaks (view_at nodes i) w ≡ breaks (view_at nodes j) w
  same_breaks_old nodes i j w alike = breaks-unseen (view_at nodes i) (view_at nodes j) w w (alike_views nodes i j alike) refl

  pub same_breaks_new : (nodes : List PlainNode) (i j : ℕ) (v : PlainView) → AreAlike nodes i j → breaks v (view_at nodes i) ≡ breaks v (view_at nodes j)
  same_breaks_new nodes i j v alike = breaks-unseen v v (view_at nodes i) (view_at nodes j) refl (alike_views nodes i j alike)

  pub same_partner_old : (nodes : List PlainNode) (i j : ℕ) (w : PlainView) (k : ℕ) → AreAlike nodes i j → partner_at (view_at nodes i) w k ≡ partner_at (view_at nodes j) w k
  same_partner_old nodes i j w k alike = partner_at-unseen (view_at nodes i) (view_at nodes j) w w k (alike_views nodes i j alike) refl

  pub same_partner_new : (nodes : List PlainNode) (i j : ℕ) (v : PlainView) (k : ℕ) → AreAlike nodes i j → partner_at v (view_at nodes i) k ≡ partner_at v (view_at nodes j) k
  same_partner_new nodes i j v k alike = partner_at-unseen v v (view_at nodes i) (view_at nodes j) k refl (alike_views nodes i j alike)
