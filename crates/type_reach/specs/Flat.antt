-- Labels and flat members of types. Each follows from the same for the types that a type holds by value.
use Rattle.std.specs.Prelude.{◌==◌, ◌+ℤ◌, ℕ, ℤ, if◌then◌else◌, List, [], ◌∷◌, ◌++◌, map, flat_map, zip, slice_index_or, Option, Some, None}
use Rattle.abi_base.specs.Dwarf.{dw_tag_structure_type, dw_tag_union_type, dw_tag_enumeration_type, dw_tag_base_type, dw_tag_typedef}
use Rattle.dwarf_entries.specs.Addresses.{tag_at}
use Rattle.dwarf_entries.specs.Chains.{name_of}
use Rattle.dwarf_entries.specs.Debug.{PlainDwarf}
use Rattle.abi_types.specs.declared.kind.LabelKind.{LabelKind}
use Rattle.abi_types.specs.declared.kind.LabelKind.TheVariants as label
use Rattle.abi_types.specs.Types.{PlainLabel}
use Rattle.type_reach.specs.declared.role.Role.{Role}
use Rattle.type_reach.specs.declared.role.Role.TheVariants as role
use Rattle.type_reach.specs.References.{Type_, is_signed, role_of, type_of, members_of}
use Rattle.type_reach.specs.ByValue.{by_value}
use Rattle.type_reach.specs.Placement.{bit_of, width_of}
use Rattle.type_reach.specs.Facts.{facts_of}

-- the core of a type: the entry behind all typedefs, qualifiers and variables
abbrev pub core_of : PlainDwarf → Type_ → Type_
core_of d r = (facts_of d r).core

-- ---- labels

abbrev pub text_or_empty : Option (List ℕ) → List ℕ
text_or_empty None = []
text_or_empty (Some text) = text

-- the kind of name that an entry with a tag has
unfoldable pub label_kind : ℕ → Option LabelKind
label_kind tag =
    if tag == dw_tag_typedef then Some label.Typedef
    else (if tag == dw_tag_structure_type then Some label.Structure
    else (if tag == dw_tag_union_type then Some label.Union
    else (if tag == dw_tag_enumeration_type then Some label.Enumeration
    else (if tag == dw_tag_base_type then Some label.Builtin else None))))

abbrev pub label_under : PlainDwarf → ℕ → Option LabelKind → List PlainLabel
label_under d e None = []
label_under d e (Some kind) = record { kind = kind; name = text_or_empty (name_of d e) } ∷ []

-- an entry that stands for the type of a type unit contributes no name
unfoldable pub own_label : PlainDwarf → ℕ → List PlainLabel
own_label d e = if is_signed d.tree e then [] else label_under d e (label_kind (tag_at d.tree e))

abbrev pub passed_labels : Role → List (List PlainLabel) → List PlainLabel
passed_labels role.Wrapper labels = slice_index_or labels 0 []
passed_labels _ labels = []

abbrev pub labels_made : PlainDwarf → Type_ → List (List PlainLabel) → List PlainLabel
labels_made d None labels = []
labels_made d (Some e) labels = own_label d e ++ passed_labels (role_of d.tree e) labels

-- the typedefs on the way to the core, and the core's own name
unfoldable pub labels_of : PlainDwarf → Type_ → List PlainLabel
labels_of d r = by_value d.tree (labels_made d) [] r

-- ---- flat members

-- a member with its offset in bits, its width in bits if it is a bit field, and its type
pub record Flat : Type 0 where
  pub name : List ℕ
  pub bit : ℤ
  pub width : ℕ
  pub to : Type_

abbrev pub moved : ℤ → Flat → Flat
moved by m = record m { bit = by +ℤ m.bit }

-- the offset of a member as declared
abbrev pub declared_bit : PlainDwarf → ℕ → ℤ
declared_bit d m = bit_of d m (facts_of d (type_of d.tree m)).size

-- The contribution of a member: itself if it has a name; else, if its type is a structure or a union, the members of that, moved.
abbrev pub given_by : PlainDwarf → ℕ → Option (List ℕ) → List Flat → List Flat
given_by d m (Some name) inner = record { name = name; bit = declared_bit d m; width = width_of d m; to = type_of d.tree m } ∷ []
given_by d m None inner = if (facts_of d (type_of d.tree m)).aggregate then map (moved (declared_bit d m)) inner else []

abbrev pub given : PlainDwarf → ℕ × List Flat → List Flat
given d member = given_by d member.0 (name_of d member.0) member.1

-- The steps from an aggregate lead to the types of its members, in order. Each member is thus paired with the flat members of its
-- type.
abbrev pub flat_for : Role → PlainDwarf → ℕ → List (List Flat) → List Flat
flat_for role.Wrapper d e flats = slice_index_or flats 0 []
flat_for _ d e flats = flat_map (given d) (zip (members_of d.tree e) flats)

abbrev pub flat_made : PlainDwarf → Type_ → List (List Flat) → List Flat
flat_made d None flats = []
flat_made d (Some e) flats = flat_for (role_of d.tree e) d e flats

-- the members of the core in order, each nameless structure or union replaced by its own members
unfoldable pub flat_of : PlainDwarf → Type_ → List Flat
flat_of d r = by_value d.tree (flat_made d) [] r

-- the contribution of a member, from the flat members of its type
abbrev pub member_gives : PlainDwarf → ℕ → List Flat
member_gives d m = given d (m, flat_of d (type_of d.tree m))
