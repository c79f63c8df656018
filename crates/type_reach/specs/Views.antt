-- The views of types. Parts refer to types by a number of the caller's choice: the offset of an entry, or the number of a node.
use Rattle.std.specs.Prelude.{ℕ, ℤ, ◌==◌, ◌&&◌, ◌||◌, not, Bool, true, false, if◌then◌else◌, List, [], ◌∷◌, map, Option, Some, None, pos, negsuc, codes}
use Rattle.std.specs.Option.{unwrap_or}
use Rattle.std.specs.Str.{bytes_eq}
use Rattle.abi_base.specs.Dwarf.{dw_tag_enumerator, dw_tag_unspecified_parameters, dw_tag_structure_type, dw_at_const_value, dw_at_gnu_vector}
use Rattle.dwarf_tree.specs.Trees.{PlainTree, entry_at}
use Rattle.dwarf_entries.specs.Addresses.{tag_at, is_declared_only}
use Rattle.dwarf_entries.specs.Chains.{attribute_along, name_of}
use Rattle.dwarf_entries.specs.Debug.{PlainDwarf}
use Rattle.dwarf_entries.specs.FlagsAndBlocks.{flag_value_along}
use Rattle.abi_types.specs.declared.kind.Kind.{Kind}
use Rattle.abi_types.specs.declared.kind.Kind.TheVariants as kind
use Rattle.abi_types.specs.declared.kind.Group.{Group}
use Rattle.abi_types.specs.declared.kind.Group.TheVariants as group
use Rattle.abi_types.specs.Types.{PlainPart, Member, Enumerator, Target, Element, Outcome, Param, PlainView}
use Rattle.abi_types.specs.Forms.{has_tag, no_call}
use Rattle.abi_types.specs.Graphs.{void_view}
use Rattle.type_reach.specs.declared.role.Role.{Role}
use Rattle.type_reach.specs.declared.role.Role.TheVariants as role
use Rattle.type_reach.specs.Values.{wrapped_of}
use Rattle.type_reach.specs.References.{Type_, role_of, tagged_children, body_of, type_of, parts_of}
use Rattle.type_reach.specs.Shapes.{encoding_group}
use Rattle.type_reach.specs.Facts.{facts_of}
use Rattle.type_reach.specs.Flat.{Flat, text_or_empty, core_of, flat_of}

-- the offset of an entry; void has 0, which is the offset of a unit header and so of no entry
abbrev pub offset_of : PlainTree → Type_ → ℕ
offset_of t None = 0
offset_of t (Some e) = (entry_at t e).offset

-- ---- the kind of a core

-- a vector type has a flag that is a GNU extension
unfoldable pub is_vector : PlainTree → ℕ → Bool
is_vector t e = flag_value_along t e dw_at_gnu_vector

abbrev pub kind_for : Role → PlainTree → ℕ → Kind
kind_for role.Aggregate t c = if tag_at t c == dw_tag_structure_type then kind.Structure else kind.Union
kind_for role.Function t c = kind.Function
kind_for role.Pointer t c = kind.Pointer
kind_for role.Array t c = if is_vector t c then kind.Vector else kind.Array
kind_for role.Enumeration t c = kind.Enumeration
kind_for role.Base t c = kind.Scalar
kind_for _ t c = kind.Void

unfoldable pub kind_of : PlainTree → ℕ → Kind
kind_of t c = kind_for (role_of t c) t c

-- ---- the group of a base type

abbrev pub is_float : Group → Bool
is_float group.Float = true
is_float other = false

abbrev pub is_quad_name : List ℕ → Bool
is_quad_name name = bytes_eq name (codes "_Float128") || bytes_eq name (codes "__float128")

abbrev pub group_from : Option Group → ℕ → List ℕ → Group
group_from None size name = group.Bool
group_from (Some g) size name = if is_float g && (size == 16 && is_quad_name name) then group.Quad else g

unfoldable pub group_of : PlainDwarf → ℕ → Group
group_of d c = group_from (encoding_group d.tree c) (facts_of d (Some c)).size (text_or_empty (name_of d c))

-- ---- parts

-- a nonnegative bit offset
abbrev pub bit_number : ℤ → ℕ
bit_number (pos bit) = bit
bit_number (negsuc bit) = 0

abbrev pub member_part : (Type_ → ℕ) → Flat → PlainPart
member_part name m = Member m.name (bit_number m.bit) m.width (name m.to)

-- an enumerator with its value modulo 2^64
abbrev pub enumerator_part : PlainDwarf → ℕ → PlainPart
enumerator_part d c = Enumerator (text_or_empty (name_of d c)) (unwrap_or (wrapped_of (attribute_along d.tree c dw_at_const_value)) 0)

abbrev pub param_part : (Type_ → ℕ) → PlainTree → ℕ → PlainPart
param_part name t p = Param (name (type_of t p))

unfoldable pub enumerators_of : PlainTree → ℕ → List ℕ
enumerators_of t c = if is_declared_only t c then [] else tagged_children t c dw_tag_enumerator

abbrev pub parts_under : Role → (Type_ → ℕ) → PlainDwarf → ℕ → List PlainPart
parts_under role.Aggregate name d c = map (member_part name) (flat_of d (Some c))
parts_under role.Function name d c = Outcome (name (type_of d.tree c)) ∷ map (param_part name d.tree) (parts_of d.tree c)
parts_under role.Pointer name d c = Target (name (type_of d.tree c)) ∷ []
parts_under role.Array name d c = Element (name (type_of d.tree c)) ∷ []
parts_under role.Enumeration name d c = map (enumerator_part d) (enumerators_of d.tree c)
parts_under _ name d c = []

-- ---- the view

abbrev pub is_empty : List ℕ → Bool
is_empty [] = true
is_empty (x ∷ xs) = false

-- the parameters below an entry end with variable arguments
abbrev pub has_further : PlainTree → ℕ → Bool
has_further t b = not (is_empty (tagged_children t b dw_tag_unspecified_parameters))

-- a function that takes variable arguments
abbrev pub variadic_for : Role → PlainTree → ℕ → Bool
variadic_for role.Function t c = has_further t (body_of t c)
variadic_for _ t c = false

abbrev pub is_variadic : PlainTree → ℕ → Bool
is_variadic t c = variadic_for (role_of t c) t c

abbrev pub group_for : Role → PlainDwarf → ℕ → Group
group_for role.Base d c = group_of d c
group_for _ d c = group.Bool

-- the view of an entry that is a core, with an explicit alignment
abbrev pub core_view : (Type_ → ℕ) → PlainDwarf → ℕ → Type_ → PlainView
core_view name d align None = record void_view { align = align }
core_view name d align (Some c) = record {
  kind = kind_of d.tree c;
  declared_only = has_tag (kind_of d.tree c) && is_declared_only d.tree c;
  tag = if has_tag (kind_of d.tree c) then text_or_empty (name_of d c) else [];
  size = (facts_of d (Some c)).size;
  group = group_for (role_of d.tree c) d c;
  align = align;
  count = (facts_of d (Some c)).count;
  variadic = variadic_for (role_of d.tree c) d.tree c;
  parts = parts_under (role_of d.tree c) name d c;
  call = no_call;
}

-- the view of a type: that of its core, with the type's own explicit alignment
unfoldable pub view_by : (Type_ → ℕ) → PlainDwarf → Type_ → PlainView
view_by name d r = core_view name d (facts_of d r).align (core_of d r)

-- THE VIEW, in which parts refer to types by the offsets of entries
abbrev pub view_of : PlainDwarf → Type_ → PlainView
view_of d r = view_by (offset_of d.tree) d r
