-- How many triples of representatives there are.
use Rattle.std.proofs.Common.{◌≡◌, ◌<◌, ◌≤◌, ℕ, zero, suc, ◌+◌, ◌*◌, ◌==◌, Bool, true, eqb, List, [], ◌∷◌, ◌++◌, map, length, get_or, slice_get, Some, refl, sym, ◌∙◌, ap, inl, inr, arith, length-append}
use Rattle.std.proofs.Math.Nat.{mul_comm}
use Rattle.std.specs.Option.{option_map}
use Rattle.std.specs.List.{list_any, filter, range_with_len, IsDistinct}
use Rattle.std.proofs.lemmas.Bool.{cases_order, cases_lt, eqb-true, eq-eqb, ne_eqb}
use Rattle.std.proofs.lemmas.List.{length-map}
use Rattle.std.proofs.lemmas.List.Elements.{filter-append}
use Rattle.std.proofs.lemmas.Map.Keys.{IsDistinct-from_apart}
use Rattle.std.proofs.lemmas.Map.Steps.{length-le_from_distinct_below}
use Rattle.std.proofs.lemmas.Option.{slice_get_within, slice_get-map, get_or_from_slice_get}
use Rattle.std.proofs.lemmas.Nat.{mul-add-lt, same_from_place}
use Rattle.abi_base.proofs.lemmas.Ranges.{range_suc}
use Rattle.abi_types.specs.declared.kind.Way.{Way}
use Rattle.abi_types.specs.declared.kind.Way.TheVariants.{Direct, Pointer}
use Rattle.pair_rules.specs.Steps.{Triple}
use Rattle.type_classes.specs.Classes.{PlainClasses, rep_of, class_reps, class_count}
use Rattle.pair_explorer.specs.declared.visits.Visit.{Visit}
use Rattle.pair_explorer.specs.Scopes.{Scope}
use Rattle.pair_explorer.specs.Explorations.{most_triples}
use Rattle.pair_explorer.specs.Visits.{seen}
use Rattle.abi_base.proofs.lemmas.Lists.{any_found, at_below}
use Rattle.pair_explorer.proofs.Leading.{IsGround}
use Rattle.pair_explorer.proofs.Visited.{IsPlaced, IsVisited}
use Rattle.pair_rules.proofs.lemmas.Triples.{triple_eq}

-- how many representatives stand before a node
place : PlainClasses → ℕ → ℕ
place c a = length (filter (λ i. rep_of c i == i) (range_with_len 0 a))

place-count : (c : PlainClasses) → place c (length c.nodes) ≡ class_count c
unfolding place class_reps
place-count c = refl

place-suc : (c : PlainClasses) (a : ℕ) → place c (suc a) ≡ place c a + length (filter (λ i. rep_of c i == i) (a ∷ []))
unfolding place
place-suc c a =
    let p : ℕ → Bool = λ i. rep_of c i == i in
    let at : 0 + a ≡ a = omega arith in
    ap (λ xs. length (filter p xs)) (range_suc 0 a ∙ ap (λ k. range_with_len 0 a ++ k ∷ []) at) ∙ ap length (filter-append p (range_with_len 0 a) (a ∷ [])) ∙ length-append (filter p (range_with_len 0 a)) (filter p (a ∷ []))

place-rises : (c : PlainClasses) (a b : ℕ) → a ≤ b → place c a ≤ place c b
place-rises c a zero le = let e : a ≡ 0 = omega arith in rw e (omega arith)
place-rises c a (suc b) le =
    elim (cases_lt b a) [
      | inl above ↦ let e : a ≡ suc b = omega arith in rw e (omega arith)
      | inr within ↦ omega (arith, place-rises c a b within, place-suc c b)
    ]

place-own : (c : PlainClasses) (a : ℕ) → rep_of c a ≡ a → place c (suc a) ≡ place c a + 1
place-own c a own = place-suc c a ∙ (let e = eq-eqb (rep_of c a) a own in rw e refl)

place-lt : (c : PlainClasses) (a b : ℕ) → rep_of c a ≡ a → a < b → place c a < place c b
place-lt c a b own lt = omega (arith, place-own c a own, place-rises c (suc a) b (omega arith))

place-same : (c : PlainClasses) (a b : ℕ) → rep_of c a ≡ a → rep_of c b ≡ b → place c a ≡ place c b → a ≡ b
place-same c a b own_a own_b e =
    elim (cases_order a b) [
      | inl same ↦ same
      | inr (inl below) ↦ absurd (omega (arith, e, place-lt c a b own_a below))
      | inr (inr above) ↦ absurd (omega (arith, e, place-lt c b a own_b above))
    ]

place-below : (c : PlainClasses) (a n : ℕ) → length c.nodes ≡ n → rep_of c a ≡ a → a < n → place c a < class_count c
place-below c a n many own lt = rw (← place-count c) (place-lt c a (length c.nodes) own (omega arith))

way_number : Way → ℕ
way_number Direct = 0
way_number Pointer = 1

way_number-lt : (w : Way) → way_number w < 2
unfolding way_number
way_number-lt Direct = omega arith
way_number-lt Pointer = omega arith

way_number-same : (v w : Way) → way_number v ≡ way_number w → v ≡ w
unfolding way_number
way_number-same Direct Direct e = refl
way_number-same Direct Pointer e = absurd (omega arith)
way_number-same Pointer Direct e = absurd (omega arith)
way_number-same Pointer Pointer e = refl

-- a number for each pair of classes, and one for each triple
pair_key : Scope → Triple → ℕ
pair_key s x = place s.old x.old * class_count s.new + place s.new x.new

key : Scope → Triple → ℕ
key s x = pair_key s x * 2 + way_number x.way

-- a triple's places
record IsCounted (s : Scope) (x : Triple) : Type 0 where
  old : rep_of s.old x.old ≡ x.old
  new : rep_of s.new x.new ≡ x.new
  old_below : place s.old x.old < class_count s.old
  new_below : place s.new x.new < class_count s.new

counted : (s : Scope) (x : Triple) → IsGround s → IsPlaced s x → IsCounted s x
counted s x ground placed =
    let old = ap (λ (y : Triple). y.old) placed.own in
    let new = ap (λ (y : Triple). y.new) placed.own in
    record {
      old = old;
      new = new;
      old_below = place-below s.old x.old (length s.task.old) (ap length ground.scope.nodes.old_nodes) old placed.old;
      new_below = place-below s.new x.new (length s.task.new) (ap length ground.scope.nodes.new_nodes) new placed.new;
    }

same_from_key : (s : Scope) (x y : Triple) → IsCounted s x → IsCounted s y → key s x ≡ key s y → x ≡ y
unfolding key pair_key
same_from_key s x y in_x in_y e =
    let ways = same_from_place (pair_key s x) (way_number x.way) (pair_key s y) (way_number y.way) 2 (way_number-lt x.way) (way_number-lt y.way) e in
    let nodes = same_from_place (place s.old x.old) (place s.new x.new) (place s.old y.old) (place s.new y.new) (class_count s.new) in_x.new_below in_y.new_below ways.0 in
    triple_eq x y (place-same s.old x.old y.old in_x.old in_y.old nodes.0) (place-same s.new x.new y.new in_x.new in_y.new nodes.1) (way_number-same x.way y.way ways.1)

key-lt : (s : Scope) (x : Triple) → IsCounted s x → key s x < most_triples s
unfolding key pair_key
key-lt s x is =
    let nodes = mul-add-lt (place s.old x.old) (class_count s.new) (place s.new x.new) (class_count s.old) is.old_below is.new_below in
    let nodes' : pair_key s x < class_count s.old * class_count s.new = rw (mul_comm (class_count s.old) (class_count s.new)) nodes in
    mul-add-lt (pair_key s x) 2 (way_number x.way) (class_count s.old * class_count s.new) nodes' (way_number-lt x.way)

key_at : (s : Scope) (vs : List Visit) (i d : ℕ) (v : Visit) → slice_get vs i ≡ Some v → get_or (map (λ u. key s (seen u)) vs) i d ≡ key s (seen v)
key_at s vs i d v e = get_or_from_slice_get (map (λ u. key s (seen u)) vs) i (key s (seen v)) d (slice_get-map (λ u. key s (seen u)) vs i ∙ ap (option_map (λ u. key s (seen u))) e)

keys-distinct : (s : Scope) (vs : List Visit) → IsGround s → IsVisited s vs → IsDistinct eqb (map (λ u. key s (seen u)) vs)
keys-distinct s vs ground was = IsDistinct-from_apart eqb (map (λ u. key s (seen u)) vs) (λ i j d lt inside.
    let j_below : j < length vs = rw (length-map vs (λ u. key s (seen u))) at inside in
    let u = at_below vs i (omega arith) in
    let v = at_below vs j j_below in
    rw (key_at s vs i d u.0 u.1, key_at s vs j d v.0 v.1) (ne_eqb (key s (seen u.0)) (key s (seen v.0)) (λ e.
    let same = same_from_key s (seen u.0) (seen v.0) (counted s (seen u.0) ground (was.placed i u.0 u.1)) (counted s (seen v.0) ground (was.placed j v.0 v.1)) e in
    let one = was.once i j u.0 v.0 u.1 v.1 same in
    omega arith)))

keys-below : (s : Scope) (vs : List Visit) → IsGround s → IsVisited s vs → (q : ℕ) → list_any (eqb q) (map (λ u. key s (seen u)) vs) ≡ true → q < most_triples s
keys-below s vs ground was q h =
    let f = any_found (eqb q) (map (λ u. key s (seen u)) vs) h in
    let below : f.0 < length vs = rw (length-map vs (λ u. key s (seen u))) at (slice_get_within (map (λ u. key s (seen u)) vs) f.0 f.1 f.2) in
    let v = at_below vs f.0 below in
    let is : f.1 ≡ key s (seen v.0) = sym (get_or_from_slice_get (map (λ u. key s (seen u)) vs) f.0 f.1 q f.2) ∙ key_at s vs f.0 q v.0 v.1 in
    let lt = key-lt s (seen v.0) (counted s (seen v.0) ground (was.placed f.0 v.0 v.1)) in
    let e = eqb-true q f.1 f.3 in
    rw (e, is) lt

-- there are no more visits than triples of representatives
pub length-visited-le : (s : Scope) (vs : List Visit) → IsGround s → IsVisited s vs → length vs ≤ most_triples s
length-visited-le s vs ground was =
    let keys : List ℕ = map (λ u. key s (seen u)) vs in
    let le : length keys ≤ most_triples s = length-le_from_distinct_below keys (most_triples s) (keys-distinct s vs ground was) (keys-below s vs ground was) in
    rw (length-map vs (λ u. key s (seen u))) at le
