-- A view read through its nodes is the view that names entries.
use Rattle.std.proofs.Common.{◌≡◌, ◌<◌, ◌+◌, ℕ, zero, suc, List, [], ◌∷◌, length, map, slice_get, Some, None, refl, sym, ◌∙◌, ap, arith, inl, inr}
use Rattle.std.specs.Prelude.{true, Contains, IfSome, nat_eq, slice_index_or}
use Rattle.std.specs.List.{position_or_len}
use Rattle.std.proofs.lemmas.Bool.{cases_Bool, eqb-true, eq-eqb}
use Rattle.std.proofs.lemmas.List.{length-map}
use Rattle.std.proofs.lemmas.List.Elements.{Contains-append_right}
use Rattle.std.proofs.lemmas.Option.{same_Some, none-some}
use Rattle.abi_base.proofs.lemmas.Lists.{map-map, contains_at, at_below, slice_get-mapped}
use Rattle.abi_base.proofs.lemmas.Contained.{in_front, at_front, in_none}
use Rattle.dwarf_tree.specs.Trees.{PlainTree}
use Rattle.dwarf_entries.specs.Debug.{PlainDwarf}
use Rattle.abi_types.specs.Types.{Target, Element, Outcome, Param, PlainNode}
use Rattle.abi_types.specs.Graphs.{void_node, node_at}
use Rattle.type_reach.specs.declared.role.Role.{Role}
use Rattle.type_reach.specs.declared.role.Role.TheVariants as role
use Rattle.type_reach.specs.References.{Type_, role_of, has_type, type_of, parts_of, own_types, types_of}
use Rattle.type_reach.specs.Reached.{IsMet, IsWalk}
use Rattle.type_reach.specs.ByValue.{IsTooDeep, IsClosed}
use Rattle.type_reach.specs.Facts.{facts_of}
use Rattle.type_reach.specs.Flat.{Flat, core_of, flat_of}
use Rattle.type_reach.specs.PeeledCores.{IsFound}
use Rattle.type_reach.specs.TypeLaws.{TypeLaws}
use Rattle.type_reach.specs.Views.{offset_of, member_part, enumerator_part, param_part, enumerators_of, parts_under, core_view, view_by, view_of}
use Rattle.type_graph.specs.Nodes.{number_in, renamed_part, renamed, entry_named, IsNodeOf, AreNodesOf, made_node, found_types, made_nodes}
use Rattle.type_reach.proofs.lemmas.Mapped.{Contains-map, map-same}

-- ---- renaming

renamed-enumerators : (f : ℕ → ℕ) (d : PlainDwarf) (cs : List ℕ) → map (renamed_part f) (map (enumerator_part d) cs) ≡ map (enumerator_part d) cs
renamed-enumerators f d [] = refl
renamed-enumerators f d (c ∷ cs) = ap (λ ps. enumerator_part d c ∷ ps) (renamed-enumerators f d cs)

renamed-parts : (f : ℕ → ℕ) (name : Type_ → ℕ) (d : PlainDwarf) (c : ℕ) (k : Role) → map (renamed_part f) (parts_under k name d c) ≡ parts_under k (λ ty. f (name ty)) d c
renamed-parts f name d c role.Pointer = refl
renamed-parts f name d c role.Array = refl
renamed-parts f name d c role.Aggregate = map-map (renamed_part f) (member_part name) (flat_of d (Some c))
renamed-parts f name d c role.Function = ap (λ ps. Outcome (f (name (type_of d.tree c))) ∷ ps) (map-map (renamed_part f) (param_part name d.tree) (parts_of d.tree c))
renamed-parts f name d c role.Enumeration = renamed-enumerators f d (enumerators_of d.tree c)
renamed-parts f name d c role.Wrapper = refl
renamed-parts f name d c role.Part = refl
renamed-parts f name d c role.Base = refl
renamed-parts f name d c role.Unknown = refl

renamed-core : (f : ℕ → ℕ) (name : Type_ → ℕ) (d : PlainDwarf) (align : ℕ) (c : Type_) → renamed f (core_view name d align c) ≡ core_view (λ ty. f (name ty)) d align c
unfolding renamed
renamed-core f name d align None = refl
renamed-core f name d align (Some c) =
    ap (λ ps. record (core_view name d align (Some c)) { parts = ps }) (renamed-parts f name d c (role_of d.tree c))

-- ---- the types that a view names

pub own_there : (t : PlainTree) (e : ℕ) → has_type (role_of t e) ≡ true → Contains (types_of t e) (type_of t e)
unfolding types_of own_types
own_there t e has = rw has (at_front (type_of t e) (map (type_of t) (parts_of t e)))

pub part_there : (t : PlainTree) (e p : ℕ) → Contains (parts_of t e) p → Contains (types_of t e) (type_of t p)
unfolding types_of
part_there t e p has = Contains-append_right (own_types t e) (map (type_of t) (parts_of t e)) (type_of t p) (Contains-map (type_of t) (parts_of t e) p has)

-- two ways to name types name those alike that a view of `c` names
pub record AreAlike (d : PlainDwarf) (m n : Type_ → ℕ) (c : ℕ) : Type 0 where
  pub types : (ty : Type_) → Contains (types_of d.tree c) ty → m ty ≡ n ty
  pub members : (x : Flat) → Contains (flat_of d (Some c)) x → m x.to ≡ n x.to

same-parts : (d : PlainDwarf) (m n : Type_ → ℕ) (c : ℕ) (k : Role) → AreAlike d m n c → role_of d.tree c ≡ k → parts_under k m d c ≡ parts_under k n d c
same-parts d m n c role.Pointer alike is = ap (λ to. Target to ∷ []) (alike.types (type_of d.tree c) (own_there d.tree c (ap has_type is)))
same-parts d m n c role.Array alike is = ap (λ to. Element to ∷ []) (alike.types (type_of d.tree c) (own_there d.tree c (ap has_type is)))
same-parts d m n c role.Aggregate alike is = map-same (member_part m) (member_part n) (flat_of d (Some c)) (λ x has. ap (λ to. member_part (λ ty. to) x) (alike.members x has))
same-parts d m n c role.Function alike is =
    let own = alike.types (type_of d.tree c) (own_there d.tree c (ap has_type is)) in
    let params = map-same (param_part m d.tree) (param_part n d.tree) (parts_of d.tree c) (λ p has. ap Param (alike.types (type_of d.tree p) (part_there d.tree c p has))) in
    rw (own, params) refl
same-parts d m n c role.Enumeration alike is = refl
same-parts d m n c role.Wrapper alike is = refl
same-parts d m n c role.Part alike is = refl
same-parts d m n c role.Base alike is = refl
same-parts d m n c role.Unknown alike is = refl

same-core : (d : PlainDwarf) (m n : Type_ → ℕ) (align : ℕ) (c : Type_) → IfSome c (AreAlike d m n) → core_view m d align c ≡ core_view n d align c
same-core d m n align None alike = refl
same-core d m n align (Some c) alike = ap (λ ps. record (core_view m d align (Some c)) { parts = ps }) (same-parts d m n c (role_of d.tree c) alike refl)

-- ---- the nodes

pub made_at : (d : PlainDwarf) (found : List ℕ) (i : ℕ) (r : Type_) → slice_get (found_types found) i ≡ Some r → (i < length (made_nodes d found)) × (node_at (made_nodes d found) i ≡ made_node d found r)
unfolding made_nodes
made_at d found i r at = go (found_types found) i at where
  go : (types : List Type_) (k : ℕ) → slice_get types k ≡ Some r → (k < length (map (made_node d found) types)) × (slice_index_or (map (made_node d found) types) k void_node ≡ made_node d found r)
  go [] k is = absurd (none-some r is)
  go (ty ∷ types) zero is = (omega arith, ap (made_node d found) (same_Some ty r is))
  go (ty ∷ types) (suc k) is = let later = go types k is in (omega (arith, later.0), later.1)

-- a type that was found stands at its number
pub stands_at : (found : List ℕ) (r : Type_) → IsFound found r → slice_get (found_types found) (number_in found r) ≡ Some r
stands_at found None there = refl
stands_at found (Some e) there = go found there where
  go : (xs : List ℕ) → Contains xs e → slice_get (map (λ x. Some x) xs) (position_or_len (nat_eq e) xs) ≡ Some (Some e)
  go [] h = absurd (in_none e h)
  go (x ∷ xs) h = elim (cases_Bool (nat_eq e x)) [ inl here ↦ rw here (ap (λ y. Some (Some y)) (sym (eqb-true e x here))) | inr other ↦ elim (in_front x xs e h) [ inl same ↦ absurd (let is = eq-eqb e x (sym same) in cc) | inr later ↦ let k : 1 + position_or_len (nat_eq e) xs ≡ suc (position_or_len (nat_eq e) xs) = omega arith in rw (other, k) (go xs later) ] ]

-- read as entries, numbers of nodes are offsets
named : (d : PlainDwarf) (found : List ℕ) (r : Type_) → IsFound found r → entry_named (made_nodes d found) (number_in found r) ≡ offset_of d.tree r
named d found r there = let at = made_at d found (number_in found r) r (stands_at found r there) in ap (λ (n : PlainNode). n.entry) at.1

pub type_found : (t : PlainTree) (found : List ℕ) (c : ℕ) (ty : Type_) → IsClosed t found → Contains found c → Contains (types_of t c) ty → IsFound found ty
type_found t found c None closed there has = tt
type_found t found c (Some f) closed there has = closed.leads_on c f there has

module _ (d : PlainDwarf) (laws : TypeLaws d) (found : List ℕ) (closed : IsClosed d.tree found) (shallow : (e : ℕ) → Contains found e → IsTooDeep d.tree (Some e) → ⊥) where
  pub found-shallow : (r : Type_) → IsFound found r → IsTooDeep d.tree r → ⊥
  found-shallow None there deep = laws.void_shallow deep
  found-shallow (Some e) there deep = shallow e there deep

  alike_at : (c : Type_) → IsFound found c → IfSome c (AreAlike d (λ ty. entry_named (made_nodes d found) (number_in found ty)) (offset_of d.tree))
  alike_at None there = tt
  alike_at (Some c) there = record {
    types = λ ty has. named d found ty (type_found d.tree found c ty closed there has);
    members = λ x has. named d found x.to (laws.lower found closed (Some c) (shallow c there) there x has).there;
  }

  -- THE VIEW LAW
  view-read : (r : Type_) → IsFound found r → renamed (entry_named (made_nodes d found)) (view_by (number_in found) d r) ≡ view_of d r
  unfolding view_by
  view-read r there =
      let core = laws.found found r closed (found-shallow r there) there in
      renamed-core (entry_named (made_nodes d found)) (number_in found) d (facts_of d r).align (core_of d r)
      ∙ same-core d (λ ty. entry_named (made_nodes d found) (number_in found ty)) (offset_of d.tree) (facts_of d r).align (core_of d r) (alike_at (core_of d r) core)

  pub node-is : (i : ℕ) (r : Type_) → IsFound found r → slice_get (found_types found) i ≡ Some r → IsNodeOf d (made_nodes d found) i r
  node-is i r there at =
      let here = made_at d found i r at in
      record {
        inside = here.0;
        entry = ap (λ (n : PlainNode). n.entry) here.1;
        rank = ap (λ (n : PlainNode). n.rank) here.1;
        view = ap (λ (n : PlainNode). renamed (entry_named (made_nodes d found)) n.view) here.1 ∙ view-read r there;
        labels = ap (λ (n : PlainNode). n.labels) here.1;
      }

pub made_length : (d : PlainDwarf) (found : List ℕ) → length (made_nodes d found) ≡ suc (length found)
unfolding made_nodes
made_length d found = length-map (found_types found) (made_node d found) ∙ ap suc (length-map found (λ e. Some e))

-- THE THEOREM OF NODES
pub are-nodes : (d : PlainDwarf) → TypeLaws d → (roots found : List ℕ) → IsWalk d.tree roots found → IsClosed d.tree found → ((e : ℕ) → Contains found e → IsTooDeep d.tree (Some e) → ⊥) → AreNodesOf d roots (made_nodes d found)
are-nodes d laws roots found walk closed shallow = record {
  all = λ r met. let there = found_of r met in (number_in found r, node-is d laws found closed shallow (number_in found r) r there (stands_at found r there));
  only = λ i lt. at i (omega (arith, lt, made_length d found));
} where
  found_of : (r : Type_) → IsMet d.tree roots r → IsFound found r
  found_of None met = tt
  found_of (Some e) met = (walk.exact e).1 met

  at : (i : ℕ) → i < suc (length found) → (r : Type_) × IsMet d.tree roots r × IsNodeOf d (made_nodes d found) i r
  at zero lt = (None, tt, node-is d laws found closed shallow 0 None tt refl)
  at (suc i) lt =
      let e = at_below found i (omega (arith, lt)) in
      let there = contains_at found i e.0 e.1 in
      (Some e.0, (walk.exact e.0).0 there, node-is d laws found closed shallow (suc i) (Some e.0) there (slice_get-mapped (λ x. Some x) found i e.0 e.1))
