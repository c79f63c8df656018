-- The facts of a type, from those of the types that it holds by value: its depth, size, weight, core, explicit alignment, and what
-- the limits of types need. Numbers that may exceed 64 bits saturate at 2^64 - 1, which exceeds every limit.
use Rattle.std.specs.Prelude.{length, Contains, ◌<◌, ◌≡◌, ◌+◌, ◌-◌, ◌*◌, ◌^◌, ◌&&◌, ◌||◌, ℕ, ℤ, Bool, true, false, if◌then◌else◌, min, max, List, [], ◌∷◌, map, zip, drop, slice_index_or, slice_get, Option, Some, None, IfSome, ◌+ℤ◌}
use Rattle.std.specs.List.{list_any}
use Rattle.std.specs.Int.{int_min, int_max}
use Rattle.abi_base.specs.Dwarf.{dw_tag_subrange_type, dw_at_byte_size, dw_at_upper_bound, dw_at_count, dw_at_alignment}
use Rattle.abi_types.specs.Limits.{align_room}
use Rattle.dwarf_tree.specs.Trees.{PlainTree}
use Rattle.dwarf_entries.specs.Addresses.{is_declared_only}
use Rattle.dwarf_entries.specs.Chains.{attribute_along}
use Rattle.dwarf_entries.specs.Debug.{PlainDwarf}
use Rattle.type_reach.specs.declared.facts.Facts.{Facts}
use Rattle.type_reach.specs.declared.facts.Span.{Span}
use Rattle.type_reach.specs.declared.role.Role.{Role}
use Rattle.type_reach.specs.declared.role.Role.TheVariants as role
use Rattle.type_reach.specs.Values.{natural_of, counted_to, number_at}
use Rattle.type_reach.specs.References.{Type_, tagged_children, role_of, members_of}
use Rattle.type_reach.specs.Placement.{bit_of, is_out_of_range, is_nameless, IsNear}
use Rattle.type_reach.specs.ByValue.{by_value, IsTooDeep}

-- a number that saturates at the end of 64 bits
abbrev pub cut : ℕ → ℕ
cut n = min n (2 ^ 64 - 1)

-- the least number above all of these
unfoldable pub above : List ℕ → ℕ
above [] = 0
above (n ∷ ns) = max (n + 1) (above ns)

-- the sum of these
unfoldable pub total : List ℕ → ℕ
total [] = 0
total (n ∷ ns) = cut (n + total ns)

-- the product of these; it is 0 if one of them is, even where an earlier product saturates
unfoldable pub product : List ℕ → ℕ
product [] = 1
product (n ∷ ns) = cut (n * product ns)

-- ---- the number of elements of an array (DWARF 5, sections 5.5 "Array Type Entries" and 5.13 "Subrange Type Entries")

abbrev pub count_by : Option ℕ → Option ℕ → ℕ
count_by (Some count) counted = count
count_by None (Some counted) = counted
count_by None None = 0

-- its count, or one more than its upper bound, modulo 2^64; without either it is open and has 0
unfoldable pub subrange_count : PlainTree → ℕ → ℕ
subrange_count t s = count_by (natural_of (attribute_along t s dw_at_count)) (counted_to (attribute_along t s dw_at_upper_bound))

abbrev pub product_or_none : List ℕ → ℕ
product_or_none [] = 0
product_or_none (n ∷ ns) = product (n ∷ ns)

-- an array without subranges has none
unfoldable pub array_count : PlainTree → ℕ → ℕ
array_count t e = product_or_none (map (subrange_count t) (tagged_children t e dw_tag_subrange_type))

-- ---- the facts of a type

abbrev pub nothing : Facts
nothing = record { rank = 0; size = 0; count = 0; weight = 0; align = 0; rooms = 0; span = None; beyond = false; core = None; aggregate = false }

-- void has size 0 and weight 1, and no core
abbrev pub void_facts : Facts
void_facts = record nothing { weight = 1 }

-- the facts of the type for which an entry stands, or of the elements of an array
abbrev pub first_of : List Facts → Facts
first_of facts = slice_index_or facts 0 nothing

-- the size that an entry gives (DWARF 5, section 2.21 "Byte and Bit Sizes"); a declaration has none (section 2.13.1)
unfoldable pub own_size : PlainTree → ℕ → ℕ
own_size t e = if is_declared_only t e then 0 else number_at t e dw_at_byte_size

-- the size of an address of x86-64
abbrev pub pointer_size : ℕ
pointer_size = 8

abbrev pub size_for : Role → PlainTree → ℕ → List Facts → ℕ
size_for role.Wrapper t e facts = (first_of facts).size
size_for role.Base t e facts = number_at t e dw_at_byte_size
size_for role.Pointer t e facts = pointer_size
size_for role.Enumeration t e facts = own_size t e
size_for role.Aggregate t e facts = own_size t e
size_for role.Array t e facts = cut (array_count t e * (first_of facts).size)
size_for _ t e facts = 0

-- the number of elements of the core, if it is an array
abbrev pub count_for : Role → PlainTree → ℕ → List Facts → ℕ
count_for role.Wrapper t e facts = (first_of facts).count
count_for role.Array t e facts = array_count t e
count_for _ t e facts = 0

abbrev pub weight_in : Facts → ℕ
weight_in x = x.weight

-- One more than the sum of the weights of all types held by value, counted once for each step: an array has one step, whatever its
-- count. A function weighs 1.
abbrev pub weight_for : Role → List Facts → ℕ
weight_for role.Function facts = 1
weight_for _ facts = cut (1 + total (map weight_in facts))

abbrev pub core_for : Role → ℕ → List Facts → Type_
core_for role.Wrapper e facts = (first_of facts).core
core_for _ e facts = Some e

-- the core is a structure or a union
abbrev pub aggregate_for : Role → List Facts → Bool
aggregate_for role.Wrapper facts = (first_of facts).aggregate
aggregate_for role.Aggregate facts = true
aggregate_for _ facts = false

-- ---- the stack space of a function's parameters: for each its size, and room for its alignment

abbrev pub room_of : Facts → ℕ
room_of x = x.size + align_room

-- the stack space of the core's parameters, if it is a function; its first step leads to its result
abbrev pub rooms_for : Role → List Facts → ℕ
rooms_for role.Wrapper facts = (first_of facts).rooms
rooms_for role.Function facts = total (map room_of (drop 1 facts))
rooms_for _ facts = 0

-- ---- members, each paired with the facts of its type

abbrev pub members_with : PlainTree → ℕ → List Facts → List (ℕ × Facts)
members_with t e facts = zip (members_of t e) facts

-- a nameless member with a structure or union type is replaced by the members of that
unfoldable pub is_replaced : PlainDwarf → ℕ × Facts → Bool
is_replaced d member = is_nameless d member.0 && member.1.aggregate

-- ---- the explicit alignment (DWARF 5, section 2.24 "Alignment")

unfoldable pub own_align : PlainTree → ℕ → ℕ
own_align t e = number_at t e dw_at_alignment

-- the greatest of these
unfoldable pub most : List ℕ → ℕ
most [] = 0
most (n ∷ ns) = max n (most ns)

-- a member's own, and that of its type if the member is replaced
unfoldable pub member_align : PlainDwarf → ℕ × Facts → ℕ
member_align d member = if is_replaced d member then max (own_align d.tree member.0) member.1.align else own_align d.tree member.0

abbrev pub passed_align : Role → List Facts → ℕ
passed_align role.Wrapper facts = (first_of facts).align
passed_align _ facts = 0

-- the greatest of its own, that of the type that it stands for, and those of its members
unfoldable pub align_from : PlainDwarf → ℕ → List Facts → ℕ
align_from d e facts = max (own_align d.tree e) (max (passed_align (role_of d.tree e) facts) (most (map (member_align d) (members_with d.tree e facts))))

-- ---- the least and the greatest offset of the core's flat members, in bits

abbrev pub moved_span : ℤ → Option Span → Option Span
moved_span by None = None
moved_span by (Some s) = Some (record { low = by +ℤ s.low; high = by +ℤ s.high })

abbrev pub joined : Option Span → Option Span → Option Span
joined None b = b
joined (Some a) None = Some a
joined (Some a) (Some b) = Some (record { low = int_min a.low b.low; high = int_max a.high b.high })

unfoldable pub spread : List (Option Span) → Option Span
spread [] = None
spread (s ∷ ss) = joined s (spread ss)

abbrev pub bit_span : ℤ → Option Span
bit_span bit = Some (record { low = bit; high = bit })

-- the offset of a member, or those of the members that replace it; nameless members of other types do not count
unfoldable pub member_span : PlainDwarf → ℕ × Facts → Option Span
member_span d member =
    if is_nameless d member.0
    then (if member.1.aggregate then moved_span (bit_of d member.0 member.1.size) member.1.span else None)
    else bit_span (bit_of d member.0 member.1.size)

unfoldable pub own_span : PlainDwarf → ℕ → List Facts → Option Span
own_span d e facts = spread (map (member_span d) (members_with d.tree e facts))

-- a type that stands for another has the span of that, any other type its own
abbrev pub span_in : Role → List Facts → Option Span → Option Span
span_in role.Wrapper facts own = (first_of facts).span
span_in _ facts own = own

abbrev pub span_for : Role → PlainDwarf → ℕ → List Facts → Option Span
span_for k d e facts = span_in k facts (own_span d e facts)

abbrev pub span_out_of_range : Option Span → Bool
span_out_of_range None = false
span_out_of_range (Some s) = is_out_of_range s.low || is_out_of_range s.high

unfoldable pub member_beyond : PlainDwarf → ℕ × Facts → Bool
member_beyond d member = is_out_of_range (bit_of d member.0 member.1.size)

abbrev pub beyond_in : Role → List Facts → Bool → Bool
beyond_in role.Wrapper facts own = (first_of facts).beyond
beyond_in _ facts own = own

-- a member of the core is out of range, as declared or as a flat member
abbrev pub beyond_for : Role → PlainDwarf → ℕ → List Facts → Bool
beyond_for k d e facts = beyond_in k facts (list_any (member_beyond d) (members_with d.tree e facts) || span_out_of_range (own_span d e facts))

-- ---- all facts

abbrev pub rank_in : Facts → ℕ
rank_in x = x.rank

unfoldable pub facts_from : PlainDwarf → Type_ → List Facts → Facts
facts_from d None facts = void_facts
facts_from d (Some e) facts = record {
  rank = above (map rank_in facts);
  size = size_for (role_of d.tree e) d.tree e facts;
  count = count_for (role_of d.tree e) d.tree e facts;
  weight = weight_for (role_of d.tree e) facts;
  align = align_from d e facts;
  rooms = rooms_for (role_of d.tree e) facts;
  span = span_for (role_of d.tree e) d e facts;
  beyond = beyond_for (role_of d.tree e) d e facts;
  core = core_for (role_of d.tree e) e facts;
  aggregate = aggregate_for (role_of d.tree e) facts;
}

-- The facts of a type that is not too deep.
unfoldable pub facts_of : PlainDwarf → Type_ → Facts
facts_of d r = by_value d.tree (facts_from d) nothing r

-- ---- known facts

-- types held by value move offsets no further than the depth allows
pub record IsSpanNear (x : Facts) : Type 0 where
  pub low : IfSome x.span (λ s. IsNear (x.rank + 1) s.low)
  pub high : IfSome x.span (λ s. IsNear (x.rank + 1) s.high)

-- the known facts of types, by the numbers of their entries
pub record AreFacts (d : PlainDwarf) (found : List ℕ) (known : List (Option Facts)) : Type 0 where
  pub each : (i e : ℕ) (x : Facts) → slice_get found i ≡ Some e → slice_get known i ≡ Some (Some x) → x ≡ facts_of d (Some e)
  pub shallow : (i e : ℕ) (x : Facts) → slice_get found i ≡ Some e → slice_get known i ≡ Some (Some x) → IsTooDeep d.tree (Some e) → ⊥
  pub near : (i : ℕ) (x : Facts) → slice_get known i ≡ Some (Some x) → IsSpanNear x

-- the facts of all found entries, none of which is too deep
pub record AreAllFacts (d : PlainDwarf) (found : List ℕ) (facts : List Facts) : Type 0 where
  pub count : length facts ≡ length found
  pub each : (i e : ℕ) → slice_get found i ≡ Some e → slice_get facts i ≡ Some (facts_of d (Some e))
  pub shallow : (e : ℕ) → Contains found e → IsTooDeep d.tree (Some e) → ⊥

-- the first entry, by offset, that is too deep
pub record IsFirstTooDeep (t : PlainTree) (found : List ℕ) (e : ℕ) : Type 0 where
  pub there : Contains found e
  pub deep : IsTooDeep t (Some e)
  pub first : (f : ℕ) → Contains found f → f < e → IsTooDeep t (Some f) → ⊥
