-- The shape that an entry must have to be a type.
use Rattle.std.specs.Prelude.{ℕ, ◌==◌, ◌&&◌, ◌||◌, not, Bool, true, false, is_some, List, [], ◌∷◌, Option, Some, None, if◌then◌else◌}
use Rattle.std.specs.List.{list_any, list_all}
use Rattle.abi_base.specs.Dwarf.{dw_tag_array_type, dw_tag_enumeration_type, dw_tag_enumerator, dw_tag_pointer_type, dw_tag_structure_type, dw_tag_subroutine_type, dw_tag_typedef, dw_tag_union_type, dw_tag_base_type, dw_tag_const_type, dw_tag_volatile_type, dw_tag_restrict_type, dw_tag_atomic_type, dw_at_byte_size, dw_at_bit_offset, dw_at_bit_size, dw_at_const_value, dw_at_data_member_location, dw_at_encoding, dw_at_data_bit_offset, dw_at_alignment, dw_ate_boolean, dw_ate_complex_float, dw_ate_float, dw_ate_signed, dw_ate_signed_char, dw_ate_unsigned, dw_ate_unsigned_char, dw_ate_decimal_float, dw_ate_utf}
use Rattle.dwarf_tree.specs.Trees.{PlainTree}
use Rattle.dwarf_entries.specs.Addresses.{tag_at, is_declared_only}
use Rattle.dwarf_entries.specs.Chains.{attribute_along}
use Rattle.dwarf_entries.specs.Debug.{PlainDwarf}
use Rattle.abi_types.specs.declared.kind.Group.{Group}
use Rattle.abi_types.specs.declared.kind.Group.TheVariants as group
use Rattle.type_reach.specs.declared.role.Role.{Role}
use Rattle.type_reach.specs.declared.role.Role.TheVariants as role
use Rattle.type_reach.specs.Values.{natural_of, wrapped_of, place_of, is_there, is_small_if_there}
use Rattle.type_reach.specs.References.{Type_, role_of, tagged_children, parts_of, types_of}

-- ---- the tags of types

abbrev pub type_tags : List ℕ
type_tags =
    dw_tag_array_type
    ∷ dw_tag_enumeration_type
    ∷ dw_tag_pointer_type
    ∷ dw_tag_structure_type
    ∷ dw_tag_subroutine_type
    ∷ dw_tag_typedef
    ∷ dw_tag_union_type
    ∷ dw_tag_base_type
    ∷ dw_tag_const_type
    ∷ dw_tag_volatile_type
    ∷ dw_tag_restrict_type
    ∷ dw_tag_atomic_type
    ∷ []

unfoldable pub is_type_tag : ℕ → Bool
is_type_tag tag = list_any (λ t. t == tag) type_tags

-- void is a type
abbrev pub is_type : PlainTree → Type_ → Bool
is_type t None = true
is_type t (Some e) = is_type_tag (tag_at t e)

-- ---- base types (DWARF 5, section 5.1 "Base Type Entries")

-- the interpretation of a base type's bits, by its encoding
unfoldable pub group_by : ℕ → Option Group
group_by encoding =
    if encoding == dw_ate_boolean then Some group.Bool
    else (if encoding == dw_ate_signed || encoding == dw_ate_signed_char then Some group.Signed
    else (if encoding == dw_ate_unsigned || (encoding == dw_ate_unsigned_char || encoding == dw_ate_utf) then Some group.Unsigned
    else (if encoding == dw_ate_float then Some group.Float
    else (if encoding == dw_ate_complex_float then Some group.Complex
    else (if encoding == dw_ate_decimal_float then Some group.Decimal else None)))))

abbrev pub group_of_encoding : Option ℕ → Option Group
group_of_encoding None = None
group_of_encoding (Some encoding) = group_by encoding

unfoldable pub encoding_group : PlainTree → ℕ → Option Group
encoding_group t e = group_of_encoding (natural_of (attribute_along t e dw_at_encoding))

-- ---- the requirements on a shape

abbrev pub is_natural_small : PlainTree → ℕ → ℕ → Bool
is_natural_small t e name = is_small_if_there natural_of (attribute_along t e name)

-- a required size
unfoldable pub has_size : PlainTree → ℕ → Bool
has_size t e = is_there t e dw_at_byte_size && is_natural_small t e dw_at_byte_size

abbrev pub is_eight : Option ℕ → Bool
is_eight None = false
is_eight (Some n) = n == 8

-- the size of a pointer is optional
unfoldable pub has_pointer_size : PlainTree → ℕ → Bool
has_pointer_size t e = not (is_there t e dw_at_byte_size) || is_eight (natural_of (attribute_along t e dw_at_byte_size))

abbrev pub is_zero : Option ℕ → Bool
is_zero None = false
is_zero (Some n) = n == 0

-- a member has an offset in bytes
unfoldable pub has_byte : PlainDwarf → ℕ → Bool
has_byte d m = is_small_if_there (place_of d.sections.info) (attribute_along d.tree m dw_at_data_member_location)

-- the attributes that give the offset of a member: data_bit_offset; else bit_offset with its storage and the byte; else the byte
unfoldable pub has_place : PlainDwarf → ℕ → Bool
has_place d m =
    if is_there d.tree m dw_at_data_bit_offset then is_natural_small d.tree m dw_at_data_bit_offset
    else (if is_there d.tree m dw_at_bit_offset
    then is_natural_small d.tree m dw_at_bit_offset && (is_natural_small d.tree m dw_at_byte_size && has_byte d m)
    else has_byte d m)

-- a width is small and not 0
unfoldable pub has_width : PlainTree → ℕ → Bool
has_width t m = is_natural_small t m dw_at_bit_size && not (is_zero (natural_of (attribute_along t m dw_at_bit_size)))

unfoldable pub is_good_member : PlainDwarf → ℕ → Bool
is_good_member d m = has_place d m && (has_width d.tree m && is_natural_small d.tree m dw_at_alignment)

-- an enumerator has a constant value
unfoldable pub is_good_enumerator : PlainTree → ℕ → Bool
is_good_enumerator t c = is_some (wrapped_of (attribute_along t c dw_at_const_value))

-- ---- the shape of an entry

-- a type that may be a declaration, which then has no size
abbrev pub has_size_unless_declared : PlainTree → ℕ → Bool
has_size_unless_declared t e = is_declared_only t e || has_size t e

abbrev pub has_shape_for : Role → PlainDwarf → ℕ → Bool
has_shape_for role.Base d e = has_size d.tree e && is_some (encoding_group d.tree e)
has_shape_for role.Pointer d e = has_pointer_size d.tree e
has_shape_for role.Enumeration d e =
    has_size_unless_declared d.tree e && list_all (is_good_enumerator d.tree) (tagged_children d.tree e dw_tag_enumerator)
has_shape_for role.Aggregate d e = has_size_unless_declared d.tree e && list_all (is_good_member d) (parts_of d.tree e)
has_shape_for _ d e = true

-- All types to which it leads are types, the attributes that its role requires are usable, and so is its alignment.
unfoldable pub has_shape : PlainDwarf → ℕ → Bool
has_shape d e =
    list_all (is_type d.tree) (types_of d.tree e)
    && (has_shape_for (role_of d.tree e) d e && is_natural_small d.tree e dw_at_alignment)
