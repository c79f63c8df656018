-- The roles of entries as types, and the types to which they lead (DWARF 5, section 5 "Type Entries").
use Rattle.std.specs.Prelude.{ℕ, ◌==◌, ◌&&◌, ◌||◌, Bool, true, false, if◌then◌else◌, List, [], ◌∷◌, ◌++◌, map, filter, Option, Some, None}
use Rattle.std.specs.Option.{option_map_or}
use Rattle.abi_base.specs.Dwarf.{dw_tag_array_type, dw_tag_enumeration_type, dw_tag_formal_parameter, dw_tag_member, dw_tag_pointer_type, dw_tag_structure_type, dw_tag_subroutine_type, dw_tag_typedef, dw_tag_union_type, dw_tag_base_type, dw_tag_const_type, dw_tag_subprogram, dw_tag_variable, dw_tag_volatile_type, dw_tag_restrict_type, dw_tag_atomic_type, dw_at_type, dw_at_signature}
use Rattle.dwarf_forms.specs.declared.values.Value.{Value}
use Rattle.dwarf_forms.specs.declared.values.Value.TheVariants as value
use Rattle.dwarf_tree.specs.Trees.{PlainTree, children_of, is_tagged}
use Rattle.dwarf_entries.specs.Addresses.{tag_at, is_declared_only}
use Rattle.dwarf_entries.specs.Chains.{target_of, attribute_along, origin_of}
use Rattle.type_reach.specs.declared.role.Role.{Role}
use Rattle.type_reach.specs.declared.role.Role.TheVariants as role

-- A type is the position of an entry, or None for void.
abbrev pub Type_ : Type 0
Type_ = Option ℕ

-- ---- types that are defined in a type unit (DWARF 5, sections 3.1.4 "Type Unit Entries" and 5.7.1)

unfoldable pub may_be_signed : ℕ → Bool
may_be_signed tag = tag == dw_tag_structure_type || (tag == dw_tag_union_type || tag == dw_tag_enumeration_type)

abbrev pub is_signature : Option Value → Bool
is_signature (Some (value.Signature signature)) = true
is_signature other = false

-- whether the entry refers by a signature to the definition of its type in a type unit
unfoldable pub is_signed : PlainTree → ℕ → Bool
is_signed t e = may_be_signed (tag_at t e) && is_signature (attribute_along t e dw_at_signature)

-- the attribute that refers to an entry's type
abbrev pub type_attribute : Bool → ℕ
type_attribute signed = if signed then dw_at_signature else dw_at_type

-- the type of an entry, its own or inherited; without the attribute it is void (section 5.2 "Unspecified Type Entries")
unfoldable pub type_of : PlainTree → ℕ → Type_
type_of t e = option_map_or (target_of t) (attribute_along t e (type_attribute (is_signed t e))) None

-- ---- roles

-- typedefs and qualified types stand for their type (sections 5.3 "Type Modifier Entries" and 5.4 "Typedef Entries"), as does a
-- variable (section 4.1 "Data Object Entries")
unfoldable pub is_passed_tag : ℕ → Bool
is_passed_tag tag =
    tag == dw_tag_typedef
    || (tag == dw_tag_const_type
    || (tag == dw_tag_volatile_type || (tag == dw_tag_restrict_type || (tag == dw_tag_atomic_type || tag == dw_tag_variable))))

-- sections 5.7 "Structure, Union, Class and Interface Type Entries", 3.3 "Subroutine and Entry Point Entries" and 5.10
-- "Subroutine Type Entries"
unfoldable pub is_aggregate_tag : ℕ → Bool
is_aggregate_tag tag = tag == dw_tag_structure_type || tag == dw_tag_union_type

unfoldable pub is_function_tag : ℕ → Bool
is_function_tag tag = tag == dw_tag_subprogram || tag == dw_tag_subroutine_type

unfoldable pub is_part_tag : ℕ → Bool
is_part_tag tag = tag == dw_tag_member || tag == dw_tag_formal_parameter

unfoldable pub tag_role : ℕ → Role
tag_role tag =
    if is_passed_tag tag then role.Wrapper
    else (if is_aggregate_tag tag then role.Aggregate
    else (if is_function_tag tag then role.Function
    else (if is_part_tag tag then role.Part
    else (if tag == dw_tag_pointer_type then role.Pointer
    else (if tag == dw_tag_array_type then role.Array
    else (if tag == dw_tag_enumeration_type then role.Enumeration
    else (if tag == dw_tag_base_type then role.Base else role.Unknown)))))))

-- a structure, a union or an enumeration with a signature stands for the type of the type unit
unfoldable pub role_of : PlainTree → ℕ → Role
role_of t e = if is_signed t e then role.Wrapper else tag_role (tag_at t e)

-- ---- parts

-- the children of an entry with a tag, in order
unfoldable pub tagged_children : PlainTree → ℕ → ℕ → List ℕ
tagged_children t e tag = filter (is_tagged t tag) (children_of t e)

-- the entry whose children are the parameters of a function: for a subprogram, the last entry of its chain
unfoldable pub body_of : PlainTree → ℕ → ℕ
body_of t e = if tag_at t e == dw_tag_subprogram then origin_of t e else e

-- the parameters among the children of an entry
abbrev pub params_under : PlainTree → ℕ → List ℕ
params_under t b = tagged_children t b dw_tag_formal_parameter

abbrev pub param_types : PlainTree → ℕ → List Type_
param_types t b = map (type_of t) (params_under t b)

-- Members and parameters, which have types. Those of a declaration lead on too, though they are not members of the type.
abbrev pub parts_for : Role → PlainTree → ℕ → List ℕ
parts_for role.Aggregate t e = tagged_children t e dw_tag_member
parts_for role.Function t e = params_under t (body_of t e)
parts_for _ t e = []

unfoldable pub parts_of : PlainTree → ℕ → List ℕ
parts_of t e = parts_for (role_of t e) t e

-- the members of a structure or a union; a declaration has none
abbrev pub members_for : Role → PlainTree → ℕ → List ℕ
members_for role.Aggregate t e = if is_declared_only t e then [] else parts_of t e
members_for _ t e = []

unfoldable pub members_of : PlainTree → ℕ → List ℕ
members_of t e = members_for (role_of t e) t e

-- ---- the types to which an entry leads

abbrev pub has_type : Role → Bool
has_type role.Wrapper = true
has_type role.Function = true
has_type role.Part = true
has_type role.Pointer = true
has_type role.Array = true
has_type _ = false

unfoldable pub own_types : PlainTree → ℕ → List Type_
own_types t e = if has_type (role_of t e) then type_of t e ∷ [] else []

-- its own type, and those of its parts
unfoldable pub types_of : PlainTree → ℕ → List Type_
types_of t e = own_types t e ++ map (type_of t) (parts_of t e)

-- The roles that hold no type by value: a pointer holds none, and a part belongs to the entry that it is a part of.
abbrev pub holds_none : Role → Bool
holds_none role.Pointer = true
holds_none role.Part = true
holds_none _ = false

-- A step by value leads from an entry that stands for a type to that type, from an array to its element type, from a structure or a
-- union to the types of its members, and from a function to those of its result and its parameters.
unfoldable pub steps_of : PlainTree → ℕ → List Type_
steps_of t e = if holds_none (role_of t e) then [] else types_of t e
