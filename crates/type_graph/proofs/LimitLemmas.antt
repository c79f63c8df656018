-- The nodes keep the limits, and so are a graph.
use Rattle.std.proofs.Common.{◌≡◌, ◌<◌, ◌≤◌, ◌^◌, ◌*◌, ◌∙◌, ℕ, zero, suc, true, false, List, [], ◌∷◌, length, map, get_or, Option, Some, None, refl, sym, ap, subst, arith, inl, inr}
use Rattle.std.specs.Prelude.{Contains, IfSome, nat_lt, nat_le, nat_eq, sum_by, ℤ, pos, negsuc}
use Rattle.std.specs.List.{list_any, list_all, IsDistinct}
use Rattle.std.proofs.lemmas.Bool.{cases_Bool, cases_lt, lt-ltb, ltb-true, le-leb, or_parts, and_parts, false≢true}
use Rattle.std.proofs.lemmas.List.{get_or_past}
use Rattle.std.proofs.lemmas.List.Sums.{sum_by-cons}
use Rattle.std.specs.Option.{unwrap_or}
use Rattle.std.proofs.lemmas.Option.{same_Some}
use Rattle.abi_base.proofs.lemmas.Contained.{list_all_in, in_front, at_front, in_rest, in_none}
use Rattle.abi_base.specs.Limits.{depth_limit, weight_limit}
use Rattle.abi_types.specs.Limits.{size_limit, bit_limit, align_limit, room_limit}
use Rattle.dwarf_tree.specs.Trees.{entry_at, IsOrdered}
use Rattle.dwarf_entries.specs.Debug.{PlainDwarf}
use Rattle.abi_types.specs.declared.kind.Kind.TheVariants as kind
use Rattle.abi_types.specs.Types.{PlainPart, Target, Element, Outcome, Param, PlainNode}
use Rattle.abi_types.specs.Forms.{HasForm}
use Rattle.abi_types.specs.Graphs.{void_node, void_view, view_at, no_part, to_of, KeepsBits, KeepsLimits, IsWhole, IsGraph, room_of}
use Rattle.type_reach.specs.declared.facts.Facts.{Facts}
use Rattle.type_reach.specs.declared.role.Role.{Role}
use Rattle.type_reach.specs.declared.role.Role.TheVariants as role
use Rattle.abi_base.specs.Dwarf.{dw_at_bit_size}
use Rattle.dwarf_entries.specs.Addresses.{is_declared_only}
use Rattle.dwarf_entries.specs.Chains.{attribute_along, name_of}
use Rattle.dwarf_forms.specs.declared.values.Value.{Value}
use Rattle.type_reach.specs.Values.{natural_of, is_small, is_small_if_there, number_at}
use Rattle.type_reach.specs.Shapes.{is_type, has_place, has_width, is_good_member, has_size_unless_declared, has_shape_for, has_shape}
use Rattle.type_reach.specs.References.{Type_, role_of, has_type, type_of, parts_of, members_for, members_of, types_of, steps_of, own_types}
use Rattle.type_reach.specs.ByValue.{IsTooDeep, IsClosed}
use Rattle.type_reach.specs.Placement.{width_of, is_out_of_range}
use Rattle.type_reach.specs.Facts.{total, room_of as facts_room, rooms_for, facts_from, facts_of}
use Rattle.type_reach.specs.Flat.{Flat, core_of, moved, declared_bit, given_by, flat_of, member_gives}
use Rattle.type_reach.specs.PeeledCores.{StandsForNone, IsFound}
use Rattle.type_reach.specs.TypeLaws.{TypeLaws}
use Rattle.type_reach.specs.Sizes.{begins_beyond, has_member_beyond, is_too_large}
use Rattle.type_reach.specs.Views.{bit_number, member_part, enumerator_part, param_part, enumerators_of, parts_under, kind_of, core_view, view_by}
use Rattle.type_graph.specs.Nodes.{number_in, made_nodes}
use Rattle.type_graph.proofs.ListLemmas.{get-cases}
use Rattle.type_reach.proofs.lemmas.Mapped.{from_map, from_flat_map}
use Rattle.type_graph.proofs.ViewLemmas.{made_at, made_length, stands_at, type_found, own_there, part_there, found-shallow}
use Rattle.type_graph.proofs.FormLemmas.{form-void, form-core, elements-of}
use Rattle.type_graph.proofs.GraphLemmas.{rank_of, node-cases, graph-inside, graph-falls, graph-apart}

not_lt : (a b : ℕ) → nat_lt a b ≡ false → b ≤ a
not_lt a b is = elim (cases_lt a b) [ inl lt ↦ absurd (false≢true (sym is ∙ lt-ltb a b lt)) | inr le ↦ le ]

not_le : (a b : ℕ) → nat_le a b ≡ false → b < a
not_le a b is = elim (cases_lt b a) [ inl lt ↦ lt | inr le ↦ absurd (false≢true (sym is ∙ le-leb a b le)) ]

pub none_beyond : (xs : List Flat) (x : Flat) → list_any begins_beyond xs ≡ false → Contains xs x → is_out_of_range x.bit ≡ false
none_beyond [] x none h = absurd (in_none x h)
none_beyond (y ∷ ys) x none h =
    let both = or_parts (is_out_of_range y.bit) (list_any begins_beyond ys) none in
    elim (in_front y ys x h) [ inl same ↦ subst (λ (z : Flat). is_out_of_range z.bit ≡ false) same both.0 | inr later ↦ none_beyond ys x both.1 later ]

-- what an entry that is not too large keeps
pub record Fits (d : PlainDwarf) (e : ℕ) : Type 0 where
  pub size : (facts_of d (Some e)).size ≤ size_limit
  pub count : (facts_of d (Some e)).count ≤ size_limit
  pub align : (facts_of d (Some e)).align ≤ align_limit
  pub rooms : (facts_of d (Some e)).rooms ≤ room_limit
  pub near : list_any begins_beyond (flat_of d (Some e)) ≡ false

pub fits_from : (d : PlainDwarf) (e : ℕ) → is_too_large d e ≡ false → Fits d e
unfolding is_too_large
fits_from d e is =
    let x : Facts = facts_of d (Some e) in
    let a = or_parts (nat_lt size_limit x.size) _ is in
    let b = or_parts (nat_lt size_limit x.count) _ a.1 in
    let w = or_parts (nat_lt weight_limit x.weight) _ b.1 in
    let g = or_parts (nat_lt align_limit x.align) _ w.1 in
    let r = or_parts (nat_lt room_limit x.rooms) _ g.1 in
    let n = or_parts (has_member_beyond d (core_of d (Some e))) (list_any begins_beyond (flat_of d (Some e))) r.1 in
    record { size = not_lt size_limit x.size a.0; count = not_lt size_limit x.count b.0; align = not_lt align_limit x.align g.0; rooms = not_lt room_limit x.rooms r.0; near = n.1 }

-- ---- widths

abbrev IsNarrow : Flat → Type 0
IsNarrow x = x.width < bit_limit

-- what the members of a type give is narrow, where the flat members of their types are
given-narrow : (d : PlainDwarf) (m : ℕ) (name : Option (List ℕ)) → width_of d m < bit_limit → ((x : Flat) → Contains (flat_of d (type_of d.tree m)) x → IsNarrow x) → (x : Flat) → Contains (given_by d m name (flat_of d (type_of d.tree m))) x → IsNarrow x
given-narrow d m (Some name) own below x h = elim (in_front _ [] x h) [ inl same ↦ subst IsNarrow same own | inr none ↦ absurd (in_none x none) ]
given-narrow d m None own below x h =
    elim (cases_Bool (facts_of d (type_of d.tree m)).aggregate) [ inl yes' ↦ let from = from_map (moved (declared_bit d m)) (flat_of d (type_of d.tree m)) x (rw yes' at h) in subst IsNarrow from.2 (below from.0 from.1) | inr no' ↦ absurd (in_none x (rw no' at h)) ]

small-number : (o : Option ℕ) → is_small o ≡ true → unwrap_or o 0 < 2 ^ 63
small-number None is = omega arith
small-number (Some n) is = ltb-true n (2 ^ 63) is

small-value : (v : Option Value) → is_small_if_there natural_of v ≡ true → unwrap_or (natural_of v) 0 < 2 ^ 63
small-value None is = omega arith
small-value (Some v) is = small-number (natural_of (Some v)) is

good-width : (d : PlainDwarf) (m : ℕ) → is_good_member d m ≡ true → width_of d m < bit_limit
unfolding is_good_member has_width width_of number_at
good-width d m is =
    let a = and_parts (has_place d m) _ is in
    let b = and_parts (has_width d.tree m) _ a.1 in
    let w = and_parts (is_small_if_there natural_of (attribute_along d.tree m dw_at_bit_size)) _ b.0 in
    small-value (attribute_along d.tree m dw_at_bit_size) w.0

-- the members of an entry that has a shape are good
shaped-members : (d : PlainDwarf) (e m : ℕ) → has_shape d e ≡ true → Contains (members_of d.tree e) m → is_good_member d m ≡ true
unfolding has_shape members_of
shaped-members d e m shape has = go (role_of d.tree e) (and_parts (has_shape_for (role_of d.tree e) d e) _ (and_parts (list_all (is_type d.tree) (types_of d.tree e)) _ shape).1).0 has where
  go : (k : Role) → has_shape_for k d e ≡ true → Contains (members_for k d.tree e) m → is_good_member d m ≡ true
  go role.Aggregate is h =
      elim (cases_Bool (is_declared_only d.tree e)) [ inl only ↦ absurd (in_none m (rw only at h)) | inr defined ↦ list_all_in (is_good_member d) (parts_of d.tree e) m (and_parts (has_size_unless_declared d.tree e) (list_all (is_good_member d) (parts_of d.tree e)) is).1 (rw defined at h) ]
  go role.Wrapper is h = absurd (in_none m h)
  go role.Function is h = absurd (in_none m h)
  go role.Part is h = absurd (in_none m h)
  go role.Pointer is h = absurd (in_none m h)
  go role.Array is h = absurd (in_none m h)
  go role.Enumeration is h = absurd (in_none m h)
  go role.Base is h = absurd (in_none m h)
  go role.Unknown is h = absurd (in_none m h)

module _ (d : PlainDwarf) (laws : TypeLaws d) (found : List ℕ) (closed : IsClosed d.tree found) (shallow : (e : ℕ) → Contains found e → IsTooDeep d.tree (Some e) → ⊥) (shaped : (e : ℕ) → Contains found e → has_shape d e ≡ true) where
  narrow-core : (r c : Type_) (n : ℕ) → ((ty : Type_) → IsFound found ty → rank_of d ty < n → (x : Flat) → Contains (flat_of d ty) x → IsNarrow x) → IsFound found c → IfSome c (StandsForNone d) → (IsTooDeep d.tree c → ⊥) → rank_of d c < suc n
      → (x : Flat) → Contains (flat_of d c) x → IsNarrow x
  narrow-core r None n below there last core_shallow low x has = absurd (in_none x (subst (λ xs. Contains xs x) laws.flats_void has))
  narrow-core r (Some c) n below there last core_shallow low x has =
      let from = from_flat_map (member_gives d) (members_of d.tree c) x (subst (λ xs. Contains xs x) (laws.members c core_shallow last) has) in
      let m = from.0 in
      let step = laws.member_step c m from.1 in
      let ty_there = laws.step_found found (Some c) (type_of d.tree m) closed there step in
      let falls = laws.falls (Some c) (type_of d.tree m) core_shallow step in
      given-narrow d m (name_of d m) (good-width d m (shaped-members d c m (shaped c there) from.1)) (below (type_of d.tree m) ty_there (omega (arith, falls, low))) x from.2

  narrow-within : (n : ℕ) (r : Type_) → IsFound found r → rank_of d r < n → (x : Flat) → Contains (flat_of d r) x → IsNarrow x
  narrow-within zero r there low x h = absurd (omega arith)
  narrow-within (suc n) r there low x h =
      let deep = found-shallow d laws found closed shallow r there in
      let core = laws.cores r deep in
      narrow-core r (core_of d r) n (narrow-within n) (laws.found found r closed deep there) core.last core.shallow (omega (arith, core.low, low)) x (subst (λ xs. Contains xs x) core.flat h)

  pub narrow : (r : Type_) → IsFound found r → (x : Flat) → Contains (flat_of d r) x → IsNarrow x
  narrow r there = narrow-within (suc (rank_of d r)) r there (omega arith)

-- ---- parts

bit-fits : (z : ℤ) → is_out_of_range z ≡ false → bit_number z < bit_limit
bit-fits (pos n) is = not_le bit_limit n is
bit-fits (negsuc n) is = omega arith

module _ (d : PlainDwarf) (name : Type_ → ℕ) (c : ℕ) (near : list_any begins_beyond (flat_of d (Some c)) ≡ false) (narrow_c : (x : Flat) → Contains (flat_of d (Some c)) x → IsNarrow x) where
  member-bits : (p : PlainPart) → Contains (map (member_part name) (flat_of d (Some c))) p → KeepsBits p
  member-bits p h =
      let from = from_map (member_part name) (flat_of d (Some c)) p h in
      subst KeepsBits from.2 (bit-fits from.0.bit (none_beyond (flat_of d (Some c)) from.0 near from.1), narrow_c from.0 from.1)

  param-bits : (ps : List ℕ) (p : PlainPart) → Contains (map (param_part name d.tree) ps) p → KeepsBits p
  param-bits ps p h = let from = from_map (param_part name d.tree) ps p h in subst KeepsBits from.2 tt

  enumerator-bits : (cs : List ℕ) (p : PlainPart) → Contains (map (enumerator_part d) cs) p → KeepsBits p
  enumerator-bits cs p h = let from = from_map (enumerator_part d) cs p h in subst KeepsBits from.2 tt

  part-bits : (k : Role) (p : PlainPart) → Contains (parts_under k name d c) p → KeepsBits p
  part-bits role.Aggregate p h = member-bits p h
  part-bits role.Function p h = elim (in_front (Outcome (name (type_of d.tree c))) (map (param_part name d.tree) (parts_of d.tree c)) p h) [ inl same ↦ subst KeepsBits same tt | inr param ↦ param-bits (parts_of d.tree c) p param ]
  part-bits role.Pointer p h = elim (in_front (Target (name (type_of d.tree c))) [] p h) [ inl same ↦ subst KeepsBits same tt | inr none ↦ absurd (in_none p none) ]
  part-bits role.Array p h = elim (in_front (Element (name (type_of d.tree c))) [] p h) [ inl same ↦ subst KeepsBits same tt | inr none ↦ absurd (in_none p none) ]
  part-bits role.Enumeration p h = enumerator-bits (enumerators_of d.tree c) p h
  part-bits role.Wrapper p h = absurd (in_none p h)
  part-bits role.Part p h = absurd (in_none p h)
  part-bits role.Base p h = absurd (in_none p h)
  part-bits role.Unknown p h = absurd (in_none p h)

-- ---- room for parameters

member-rooms : (nodes : List PlainNode) (name : Type_ → ℕ) (xs : List Flat) → sum_by (room_of nodes) (map (member_part name) xs) ≡ 0
member-rooms nodes name [] = refl
member-rooms nodes name (x ∷ xs) =
    let sum = sum_by-cons (room_of nodes) (member_part name x) (map (member_part name) xs) in
    omega (arith, sum, member-rooms nodes name xs)

enumerator-rooms : (nodes : List PlainNode) (d : PlainDwarf) (xs : List ℕ) → sum_by (room_of nodes) (map (enumerator_part d) xs) ≡ 0
enumerator-rooms nodes d [] = refl
enumerator-rooms nodes d (x ∷ xs) =
    let sum = sum_by-cons (room_of nodes) (enumerator_part d x) (map (enumerator_part d) xs) in
    omega (arith, sum, enumerator-rooms nodes d xs)

module _ (d : PlainDwarf) (laws : TypeLaws d) (found : List ℕ) (closed : IsClosed d.tree found) (shallow : (e : ℕ) → Contains found e → IsTooDeep d.tree (Some e) → ⊥) (shaped : (e : ℕ) → Contains found e → has_shape d e ≡ true) (fits : (e : ℕ) → Contains found e → is_too_large d e ≡ false) where
  -- the size of a type's node is that of the type
  node-size : (r : Type_) → IsFound found r → (view_at (made_nodes d found) (number_in found r)).size ≡ (facts_of d r).size
  unfolding view_by
  node-size r there =
      ap (λ (n : PlainNode). n.view.size) (made_at d found (number_in found r) r (stands_at found r there)).1
      ∙ go (core_of d r) (laws.cores r (found-shallow d laws found closed shallow r there)).same.size
    where
      go : (c : Type_) → (facts_of d r).size ≡ (facts_of d c).size → (core_view (number_in found) d (facts_of d r).align c).size ≡ (facts_of d r).size
      go None same = sym (same ∙ ap (λ (x : Facts). x.size) laws.facts_void)
      go (Some c) same = sym same

  params-fit : (c : ℕ) → Contains found c → (ps : List ℕ) → ((p : ℕ) → Contains ps p → Contains (parts_of d.tree c) p) → total (map facts_room (map (facts_of d) (map (type_of d.tree) ps))) ≤ room_limit
      → sum_by (room_of (made_nodes d found)) (map (param_part (number_in found) d.tree) ps) ≤ total (map facts_room (map (facts_of d) (map (type_of d.tree) ps)))
  unfolding total
  params-fit c there [] inside le = omega arith
  params-fit c there (p ∷ ps) inside le =
      let ty_there = type_found d.tree found c (type_of d.tree p) closed there (part_there d.tree c p (inside p (at_front p ps))) in
      let here = node-size (type_of d.tree p) ty_there in
      let rest : ℕ = total (map facts_room (map (facts_of d) (map (type_of d.tree) ps))) in
      let small : rest ≤ room_limit = omega (arith, le) in
      let later = params-fit c there ps (λ q h. inside q (in_rest p ps q h)) small in
      let sum = sum_by-cons (room_of (made_nodes d found)) (Param (number_in found (type_of d.tree p))) (map (param_part (number_in found) d.tree) ps) in
      omega (arith, sum, here, later, le)

  function-rooms : (c : ℕ) → (IsTooDeep d.tree (Some c) → ⊥) → role_of d.tree c ≡ role.Function → (facts_of d (Some c)).rooms ≡ total (map facts_room (map (facts_of d) (map (type_of d.tree) (parts_of d.tree c))))
  unfolding facts_from steps_of types_of own_types
  function-rooms c deep is =
      ap (λ (x : Facts). x.rooms) (laws.facts (Some c) deep)
      ∙ ap (λ k. rooms_for k (map (facts_of d) (steps_of d.tree c))) is
      ∙ (rw is refl)

  rooms-fit : (c : ℕ) (k : Role) → role_of d.tree c ≡ k → Contains found c → sum_by (room_of (made_nodes d found)) (parts_under k (number_in found) d c) ≤ room_limit
  rooms-fit c role.Function is there =
      let sum = sum_by-cons (room_of (made_nodes d found)) (Outcome (number_in found (type_of d.tree c))) (map (param_part (number_in found) d.tree) (parts_of d.tree c)) in
      let all = function-rooms c (shallow c there) is in
      let le = (fits_from d c (fits c there)).rooms in
      let small : total (map facts_room (map (facts_of d) (map (type_of d.tree) (parts_of d.tree c)))) ≤ room_limit = omega (arith, all, le) in
      let params = params-fit c there (parts_of d.tree c) (λ p h. h) small in
      omega (arith, sum, params, small)
  rooms-fit c role.Aggregate is there = rw (member-rooms (made_nodes d found) (number_in found) (flat_of d (Some c))) (omega arith)
  rooms-fit c role.Enumeration is there = rw (enumerator-rooms (made_nodes d found) d (enumerators_of d.tree c)) (omega arith)
  rooms-fit c role.Pointer is there = omega arith
  rooms-fit c role.Array is there = omega arith
  rooms-fit c role.Base is there = omega arith
  rooms-fit c role.Wrapper is there = omega arith
  rooms-fit c role.Part is there = omega arith
  rooms-fit c role.Unknown is there = omega arith

  limits-void : (align : ℕ) → align ≤ align_limit → KeepsLimits (made_nodes d found) (record void_view { align = align })
  limits-void align le = record { size = omega arith; count = omega arith; align = le; bits = λ k. tt; rooms = omega arith }

  limits-core : (align : ℕ) (c : Type_) → align ≤ align_limit → IsFound found c → KeepsLimits (made_nodes d found) (core_view (number_in found) d align c)
  limits-core align None le there = limits-void align le
  limits-core align (Some c) le there =
      let keeps = fits_from d c (fits c there) in
      let parts : List PlainPart = parts_under (role_of d.tree c) (number_in found) d c in
      record {
        size = keeps.size;
        count = keeps.count;
        align = le;
        bits = λ j. elim (get-cases parts j no_part) [
          | inl has ↦ part-bits d (number_in found) c keeps.near (narrow d laws found closed shallow shaped (Some c) there) (role_of d.tree c) (get_or parts j no_part) has
          | inr past ↦ subst KeepsBits (sym past) tt
        ];
        rooms = rooms-fit c (role_of d.tree c) refl there;
      }

  align-fits : (r : Type_) → IsFound found r → (facts_of d r).align ≤ align_limit
  align-fits None there = omega (arith, ap (λ (x : Facts). x.align) laws.facts_void)
  align-fits (Some e) there = (fits_from d e (fits e there)).align

  view-form : (r : Type_) → IsFound found r → HasForm (view_by (number_in found) d r)
  unfolding view_by
  view-form r there =
      let core = laws.cores r (found-shallow d laws found closed shallow r there) in
      form-core d laws (number_in found) (facts_of d r).align (core_of d r) core.shallow core.last

  view-limits : (r : Type_) → IsFound found r → KeepsLimits (made_nodes d found) (view_by (number_in found) d r)
  unfolding view_by
  view-limits r there = limits-core (facts_of d r).align (core_of d r) (align-fits r there) (laws.found found r closed (found-shallow d laws found closed shallow r there) there)

  whole-core : (align : ℕ) (c : Type_) → IsFound found c → IsWhole (made_nodes d found) (core_view (number_in found) d align c)
  unfolding kind_of
  whole-core align None there = λ to has e. absurd (false≢true has)
  whole-core align (Some c) there = λ to has e.
      let array = elements-of d c (role_of d.tree c) has in
      let ty : Type_ = type_of d.tree c in
      let named : number_in found ty ≡ to = same_Some (number_in found ty) to (subst (λ k. to_of (get_or (parts_under k (number_in found) d c) 0 no_part) ≡ Some to) array e) in
      let whole = laws.arrays c (shallow c there) array (fits_from d c (fits c there)).size in
      let there_ty = type_found d.tree found c ty closed there (own_there d.tree c (ap has_type array)) in
      let size = node-size ty there_ty in
      whole ∙ ap (λ n. (facts_of d (Some c)).count * n) (sym size) ∙ ap (λ i. (facts_of d (Some c)).count * (view_at (made_nodes d found) i).size) named

  view-whole : (r : Type_) → IsFound found r → IsWhole (made_nodes d found) (view_by (number_in found) d r)
  unfolding view_by
  view-whole r there = whole-core (facts_of d r).align (core_of d r) (laws.found found r closed (found-shallow d laws found closed shallow r there) there)

  void-kind : (view_at (made_nodes d found) 0).kind ≡ kind.Void
  unfolding view_by
  void-kind =
      ap (λ (n : PlainNode). n.view.kind) (made_at d found 0 None refl).1
      ∙ ap (λ c. (core_view (number_in found) d (facts_of d None).align c).kind) (ap (λ (x : Facts). x.core) laws.facts_void)

  rank-fits : (r : Type_) → IsFound found r → (facts_of d r).rank ≤ depth_limit
  rank-fits r there = laws.ranks r (found-shallow d laws found closed shallow r there)

  -- THE THEOREM OF THE GRAPH: what a graph asks
  pub made-graph : IsOrdered d.tree → ((e : ℕ) → e < length d.tree.entries → 0 < (entry_at d.tree e).offset) → IsDistinct nat_eq found → IsGraph (made_nodes d found)
  made-graph order positive once = record {
    void_first = omega (arith, made_length d found);
    void_kind = void-kind;
    void_entry = ap (λ (n : PlainNode). n.entry) (made_at d found 0 None refl).1;
    inside = graph-inside d laws found closed shallow;
    apart = graph-apart d laws found closed shallow order positive once;
    falls = graph-falls d laws found closed shallow;
    shallow = λ i. elim (node-cases d laws found closed shallow i) [
      | inl r ↦ rw (ap (λ (n : PlainNode). n.rank) (made_at d found i r.0 r.2).1) (rank-fits r.0 r.1)
      | inr past ↦ rw (get_or_past (made_nodes d found) i void_node past) (omega arith)
    ];
    forms = λ i. elim (node-cases d laws found closed shallow i) [
      | inl r ↦ subst HasForm (sym (ap (λ (n : PlainNode). n.view) (made_at d found i r.0 r.2).1)) (view-form r.0 r.1)
      | inr past ↦ subst (λ (n : PlainNode). HasForm n.view) (sym (get_or_past (made_nodes d found) i void_node past)) (form-void 0)
    ];
    limits = λ i. elim (node-cases d laws found closed shallow i) [
      | inl r ↦ subst (KeepsLimits (made_nodes d found)) (sym (ap (λ (n : PlainNode). n.view) (made_at d found i r.0 r.2).1)) (view-limits r.0 r.1)
      | inr past ↦ subst (λ (n : PlainNode). KeepsLimits (made_nodes d found) n.view) (sym (get_or_past (made_nodes d found) i void_node past)) (limits-void 0 (omega arith))
    ];
    whole = λ i. elim (node-cases d laws found closed shallow i) [
      | inl r ↦ subst (IsWhole (made_nodes d found)) (sym (ap (λ (n : PlainNode). n.view) (made_at d found i r.0 r.2).1)) (view-whole r.0 r.1)
      | inr past ↦ subst (λ (n : PlainNode). IsWhole (made_nodes d found) n.view) (sym (get_or_past (made_nodes d found) i void_node past)) (λ to has e. absurd (false≢true has))
    ];
  }
