-- The nodes are a graph.
use Rattle.std.proofs.Common.{◌≡◌, ◌<◌, ◌≤◌, ℕ, zero, suc, false, List, [], ◌∷◌, length, map, get_or, slice_get, Some, None, refl, sym, ◌∙◌, ap, subst, arith, inl, inr, ◌⊎◌}
use Rattle.std.specs.Prelude.{Contains, nat_eq}
use Rattle.std.specs.List.{IsDistinct}
use Rattle.std.proofs.lemmas.Bool.{cases_order, cases_lt, eq-eqb, false≢true}
use Rattle.std.proofs.lemmas.List.{get_or_past}
use Rattle.std.proofs.lemmas.Map.Keys.{apart_from_distinct}
use Rattle.std.proofs.lemmas.Option.{same_Some, none-some, slice_get_within, get_or_from_slice_get}
use Rattle.abi_base.proofs.lemmas.Lists.{contains_at, at_below, slice_get-mapped}
use Rattle.abi_base.proofs.lemmas.Contained.{in_front, in_none}
use Rattle.dwarf_tree.specs.Trees.{PlainTree, entry_at, IsOrdered}
use Rattle.dwarf_entries.specs.Debug.{PlainDwarf}
use Rattle.abi_types.specs.Types.{PlainPart, Target, Element, Outcome, Param, PlainNode}
use Rattle.abi_types.specs.Graphs.{void_node, node_at, view_at, part_at, no_part, to_of, inner_of}
use Rattle.type_reach.specs.declared.role.Role.{Role}
use Rattle.type_reach.specs.declared.role.Role.TheVariants as role
use Rattle.type_reach.specs.References.{Type_, role_of, has_type, holds_none, type_of, parts_of, types_of, steps_of}
use Rattle.type_reach.specs.ByValue.{IsTooDeep, IsClosed}
use Rattle.type_reach.specs.Facts.{facts_of}
use Rattle.type_reach.specs.Flat.{core_of, flat_of}
use Rattle.type_reach.specs.PeeledCores.{IsFound}
use Rattle.type_reach.specs.TypeLaws.{TypeLaws}
use Rattle.type_reach.specs.Views.{offset_of, member_part, enumerator_part, param_part, enumerators_of, parts_under, core_view, view_by}
use Rattle.type_graph.specs.Nodes.{number_in, found_types, made_nodes}
use Rattle.type_graph.proofs.ListLemmas.{get-cases}
use Rattle.type_reach.proofs.lemmas.Mapped.{from_map}
use Rattle.type_graph.proofs.ViewLemmas.{made_at, made_length, stands_at, type_found, own_there, part_there, found-shallow}

abbrev pub rank_of : PlainDwarf → Type_ → ℕ
rank_of d r = (facts_of d r).rank

-- a part names a type that was found, and one of lower rank where it names it by value
pub record IsNamed (d : PlainDwarf) (found : List ℕ) (r : Type_) (p : PlainPart) : Type 0 where
  pub to : (n : ℕ) → to_of p ≡ Some n → (ty : Type_) × IsFound found ty × (n ≡ number_in found ty)
  pub inner : (n : ℕ) → inner_of p ≡ Some n → (ty : Type_) × IsFound found ty × (n ≡ number_in found ty) × (rank_of d ty < rank_of d r)

step-in : (t : PlainTree) (c : ℕ) (ty : Type_) → holds_none (role_of t c) ≡ false → Contains (types_of t c) ty → Contains (steps_of t c) ty
unfolding steps_of
step-in t c ty other has = rw other has

unmapped : (xs : List ℕ) (i e : ℕ) → slice_get (map (λ x. Some x) xs) i ≡ Some (Some e) → slice_get xs i ≡ Some e
unmapped [] i e is = absurd (none-some (Some e) is)
unmapped (x ∷ xs) zero e is = same_Some (Some x) (Some e) is
unmapped (x ∷ xs) (suc i) e is = unmapped xs i e is

no-void-in : (xs : List ℕ) (i : ℕ) → slice_get (map (λ x. Some x) xs) i ≡ Some None → ⊥
no-void-in [] i is = none-some None is
no-void-in (x ∷ xs) zero is = none-some x (sym (same_Some (Some x) None is))
no-void-in (x ∷ xs) (suc i) is = no-void-in xs i is

module _ (d : PlainDwarf) (laws : TypeLaws d) (found : List ℕ) (closed : IsClosed d.tree found) (shallow : (e : ℕ) → Contains found e → IsTooDeep d.tree (Some e) → ⊥) where
  by-value : (c : ℕ) (ty : Type_) (p : PlainPart) → Contains found c → Contains (types_of d.tree c) ty → holds_none (role_of d.tree c) ≡ false
      → ((n : ℕ) → to_of p ≡ Some n → number_in found ty ≡ n) → ((n : ℕ) → inner_of p ≡ Some n → to_of p ≡ Some n) → IsNamed d found (Some c) p
  by-value c ty p there has other names inner =
      let ty_there = type_found d.tree found c ty closed there has in
      let low = laws.falls (Some c) ty (shallow c there) (step-in d.tree c ty other has) in
      record {
        to = λ n e. (ty, ty_there, sym (names n e));
        inner = λ n e. (ty, ty_there, sym (names n (inner n e)), low);
      }

  named-member : (c : ℕ) → Contains found c → (p : PlainPart) → Contains (map (member_part (number_in found)) (flat_of d (Some c))) p → IsNamed d found (Some c) p
  named-member c there p has =
      let from = from_map (member_part (number_in found)) (flat_of d (Some c)) p has in
      let m = from.0 in
      let low = laws.lower found closed (Some c) (shallow c there) there m from.1 in
      subst (IsNamed d found (Some c)) from.2 (record {
        to = λ n e. (m.to, low.there, sym (same_Some (number_in found m.to) n e));
        inner = λ n e. (m.to, low.there, sym (same_Some (number_in found m.to) n e), low.low);
      })

  named-enumerator : (c : ℕ) (cs : List ℕ) (p : PlainPart) → Contains (map (enumerator_part d) cs) p → IsNamed d found (Some c) p
  named-enumerator c cs p has = let from = from_map (enumerator_part d) cs p has in subst (IsNamed d found (Some c)) from.2 (record { to = λ n e. absurd (none-some n e); inner = λ n e. absurd (none-some n e) })

  -- the parts of the view of a core
  named-parts : (c : ℕ) (k : Role) → role_of d.tree c ≡ k → Contains found c → (p : PlainPart) → Contains (parts_under k (number_in found) d c) p → IsNamed d found (Some c) p
  named-parts c role.Pointer is there p has =
      let ty = type_of d.tree c in
      let ty_there = type_found d.tree found c ty closed there (own_there d.tree c (ap has_type is)) in
      elim (in_front (Target (number_in found ty)) [] p has) [
        | inl same ↦ subst (IsNamed d found (Some c)) same (record { to = λ n e. (ty, ty_there, sym (same_Some (number_in found ty) n e)); inner = λ n e. absurd (none-some n e) })
        | inr none ↦ absurd (in_none p none)
      ]
  named-parts c role.Array is there p has =
      let ty = type_of d.tree c in
      elim (in_front (Element (number_in found ty)) [] p has) [
        | inl same ↦ subst (IsNamed d found (Some c)) same (by-value c ty (Element (number_in found ty)) there (own_there d.tree c (ap has_type is)) (ap holds_none is) (λ n e. same_Some (number_in found ty) n e) (λ n e. e))
        | inr none ↦ absurd (in_none p none)
      ]
  named-parts c role.Aggregate is there p has = named-member c there p has
  named-parts c role.Function is there p has =
      let own = own_there d.tree c (ap has_type is) in
      elim (in_front (Outcome (number_in found (type_of d.tree c))) (map (param_part (number_in found) d.tree) (parts_of d.tree c)) p has) [
        | inl same ↦ subst (IsNamed d found (Some c)) same (by-value c (type_of d.tree c) (Outcome (number_in found (type_of d.tree c))) there own (ap holds_none is) (λ n e. same_Some (number_in found (type_of d.tree c)) n e) (λ n e. e))
        | inr param ↦
            let from = from_map (param_part (number_in found) d.tree) (parts_of d.tree c) p param in
            let ty = type_of d.tree from.0 in
            subst (IsNamed d found (Some c)) from.2 (by-value c ty (Param (number_in found ty)) there (part_there d.tree c from.0 from.1) (ap holds_none is) (λ n e. same_Some (number_in found ty) n e) (λ n e. e))
      ]
  named-parts c role.Enumeration is there p has = named-enumerator c (enumerators_of d.tree c) p has
  named-parts c role.Wrapper is there p has = absurd (in_none p has)
  named-parts c role.Part is there p has = absurd (in_none p has)
  named-parts c role.Base is there p has = absurd (in_none p has)
  named-parts c role.Unknown is there p has = absurd (in_none p has)

  -- the parts of the view of a type
  named-view : (r : Type_) → IsFound found r → (k : ℕ) → IsNamed d found r (part_at (view_by (number_in found) d r) k)
  unfolding view_by
  named-view r there k = go (core_of d r) (laws.found found r closed (found-shallow d laws found closed shallow r there) there) (laws.cores r (found-shallow d laws found closed shallow r there)).low where
    no-name : IsNamed d found r no_part
    no-name = record { to = λ n e. absurd (none-some n e); inner = λ n e. absurd (none-some n e) }

    go : (c : Type_) → IsFound found c → rank_of d c ≤ rank_of d r → IsNamed d found r (part_at (core_view (number_in found) d (facts_of d r).align c) k)
    go None core_there low = no-name
    go (Some c) core_there low =
        let parts = parts_under (role_of d.tree c) (number_in found) d c in
        elim (get-cases parts k no_part) [
          | inl has ↦
              let named = named-parts c (role_of d.tree c) refl core_there (get_or parts k no_part) has in
              record { to = named.to; inner = λ n e. let below = named.inner n e in (below.0, below.1, below.2, omega (arith, below.3, low)) }
          | inr past ↦ subst (IsNamed d found r) (sym past) no-name
        ]

  -- each node is that of a type that was found, or stands past the end
  pub node-cases : (i : ℕ) → ((r : Type_) × IsFound found r × (slice_get (found_types found) i ≡ Some r)) ⊎ (length (made_nodes d found) ≤ i)
  node-cases zero = inl (None, tt, refl)
  node-cases (suc i) =
      elim (cases_lt i (length found)) [
        | inl lt ↦ let e = at_below found i lt in inl (Some e.0, contains_at found i e.0 e.1, slice_get-mapped (λ x. Some x) found i e.0 e.1)
        | inr past ↦ inr (omega (arith, past, made_length d found))
      ]

  number-inside : (r : Type_) → IsFound found r → number_in found r < length (made_nodes d found)
  number-inside r there = (made_at d found (number_in found r) r (stands_at found r there)).0

  pub graph-inside : (i k to : ℕ) → to_of (part_at (view_at (made_nodes d found) i) k) ≡ Some to → to < length (made_nodes d found)
  graph-inside i k to e =
      elim (node-cases i) [
        | inl r ↦
            let here = ap (λ (n : PlainNode). n.view) (made_at d found i r.0 r.2).1 in
            let named = (named-view r.0 r.1 k).to to (subst (λ v. to_of (part_at v k) ≡ Some to) here e) in
            rw named.2 (number-inside named.0 named.1)
        | inr past ↦ absurd (none-some to (subst (λ n. to_of (part_at n.view k) ≡ Some to) (get_or_past (made_nodes d found) i void_node past) e))
      ]

  pub graph-falls : (i k to : ℕ) → inner_of (part_at (view_at (made_nodes d found) i) k) ≡ Some to → (node_at (made_nodes d found) to).rank < (node_at (made_nodes d found) i).rank
  graph-falls i k to e =
      elim (node-cases i) [
        | inl r ↦
            let at = (made_at d found i r.0 r.2).1 in
            let here = ap (λ (n : PlainNode). n.view) at in
            let named = (named-view r.0 r.1 k).inner to (subst (λ v. inner_of (part_at v k) ≡ Some to) here e) in
            let below : (node_at (made_nodes d found) to).rank ≡ rank_of d named.0 = ap (λ j. (node_at (made_nodes d found) j).rank) named.2 ∙ ap (λ (n : PlainNode). n.rank) (made_at d found (number_in found named.0) named.0 (stands_at found named.0 named.1)).1 in
            omega (arith, below, named.3, ap (λ (n : PlainNode). n.rank) at)
        | inr past ↦ absurd (none-some to (subst (λ n. inner_of (part_at n.view k) ≡ Some to) (get_or_past (made_nodes d found) i void_node past) e))
      ]

  module _ (order : IsOrdered d.tree) (positive : (e : ℕ) → e < length d.tree.entries → 0 < (entry_at d.tree e).offset) (once : IsDistinct nat_eq found) where
    same-type : (r s : Type_) → IsFound found r → IsFound found s → offset_of d.tree r ≡ offset_of d.tree s → r ≡ s
    same-type None None there_r there_s e = refl
    same-type None (Some f) there_r there_s e = absurd (omega (arith, e, positive f (closed.inside f there_s)))
    same-type (Some e) None there_r there_s is = absurd (omega (arith, is, positive e (closed.inside e there_r)))
    same-type (Some e) (Some f) there_r there_s is =
        elim (cases_order e f) [
          | inl same ↦ ap (λ x. Some x) same
          | inr (inl below) ↦ absurd (omega (arith, is, order.offsets e f below (closed.inside f there_s)))
          | inr (inr above) ↦ absurd (omega (arith, is, order.offsets f e above (closed.inside e there_r)))
        ]

    no-void : (i : ℕ) (r : Type_) → r ≡ None → slice_get (map (λ x. Some x) found) i ≡ Some r → ⊥
    no-void i r none at = no-void-in found i (at ∙ ap (λ x. Some x) none)

    apart : (i j e : ℕ) → i < j → slice_get found i ≡ Some e → slice_get found j ≡ Some e → ⊥
    apart i j e lt at_i at_j =
        let differ = apart_from_distinct nat_eq found i j e once lt (slice_get_within found j e at_j) in
        let same = eq-eqb (get_or found i e) (get_or found j e) (get_or_from_slice_get found i e e at_i ∙ sym (get_or_from_slice_get found j e e at_j)) in
        false≢true (sym differ ∙ same)

    same-found : (i j e : ℕ) → slice_get found i ≡ Some e → slice_get found j ≡ Some e → i ≡ j
    same-found i j e at_i at_j = elim (cases_order i j) [ inl same ↦ same | inr (inl below) ↦ absurd (apart i j e below at_i at_j) | inr (inr above) ↦ absurd (apart j i e above at_j at_i) ]

    same-place : (i j : ℕ) (r : Type_) → slice_get (found_types found) i ≡ Some r → slice_get (found_types found) j ≡ Some r → i ≡ j
    same-place zero zero r at_i at_j = refl
    same-place zero (suc j) r at_i at_j = absurd (no-void j r (sym (same_Some None r at_i)) at_j)
    same-place (suc i) zero r at_i at_j = absurd (no-void i r (sym (same_Some None r at_j)) at_i)
    same-place (suc i) (suc j) None at_i at_j = absurd (no-void i None refl at_i)
    same-place (suc i) (suc j) (Some e) at_i at_j = ap suc (same-found i j e (unmapped found i e at_i) (unmapped found j e at_j))

    pub graph-apart : (i j : ℕ) → i < length (made_nodes d found) → j < length (made_nodes d found) → (node_at (made_nodes d found) i).entry ≡ (node_at (made_nodes d found) j).entry → i ≡ j
    graph-apart i j lt_i lt_j e =
        elim (node-cases i) [
          | inl r ↦ elim (node-cases j) [
            | inl s ↦
                let offset_i = ap (λ (n : PlainNode). n.entry) (made_at d found i r.0 r.2).1 in
                let offset_j = ap (λ (n : PlainNode). n.entry) (made_at d found j s.0 s.2).1 in
                let same = same-type r.0 s.0 r.1 s.1 (sym offset_i ∙ e ∙ offset_j) in
                same-place i j s.0 (r.2 ∙ ap (λ x. Some x) same) s.2
            | inr past ↦ absurd (omega (arith, past))
          ]
          | inr past ↦ absurd (omega (arith, past))
        ]
