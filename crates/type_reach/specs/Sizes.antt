-- The conditions under which a type is too large.
use Rattle.std.specs.Prelude.{ℕ, ◌||◌, Bool, false, nat_lt, Some, None}
use Rattle.std.specs.List.{list_any}
use Rattle.abi_base.specs.Limits.{weight_limit}
use Rattle.dwarf_entries.specs.Debug.{PlainDwarf}
use Rattle.abi_types.specs.Limits.{size_limit, align_limit, room_limit}
use Rattle.type_reach.specs.References.{Type_, members_of}
use Rattle.type_reach.specs.Placement.{is_out_of_range}
use Rattle.type_reach.specs.Facts.{facts_of}
use Rattle.type_reach.specs.Flat.{Flat, core_of, declared_bit, flat_of}

abbrev pub begins_beyond : Flat → Bool
begins_beyond m = is_out_of_range m.bit

-- a member of the core is out of range, as declared
abbrev pub has_member_beyond : PlainDwarf → Type_ → Bool
has_member_beyond d None = false
has_member_beyond d (Some c) = list_any (λ m. is_out_of_range (declared_bit d m)) (members_of d.tree c)

-- a size, a count, a weight, an alignment, the parameters of a function or the offsets of members exceed the limits
unfoldable pub is_too_large : PlainDwarf → ℕ → Bool
is_too_large d e =
    nat_lt size_limit (facts_of d (Some e)).size
    || (nat_lt size_limit (facts_of d (Some e)).count
    || (nat_lt weight_limit (facts_of d (Some e)).weight
    || (nat_lt align_limit (facts_of d (Some e)).align
    || (nat_lt room_limit (facts_of d (Some e)).rooms
    || (has_member_beyond d (core_of d (Some e)) || list_any begins_beyond (flat_of d (Some e)))))))
