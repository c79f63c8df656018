-- The texts of definitions of structures, unions and enumerations: their sizes, and each member or enumerator.
use Rattle.std.specs.Prelude.{ℕ, zero, suc, ◌+◌, ◌==◌, ◌||◌, Bool, true, false, if◌then◌else◌, List, [], ◌∷◌, ◌++◌, Option, Some, None, codes, decimal}
use Rattle.std.specs.List.{concat, flat_map}
use Rattle.abi_base.specs.Dwarf.{dw_tag_structure_type, dw_tag_union_type, dw_tag_enumeration_type, dw_tag_enumerator, dw_tag_member, dw_at_byte_size, dw_at_const_value, dw_at_encoding, dw_ate_boolean, dw_ate_complex_float, dw_ate_decimal_float, dw_ate_float, dw_ate_unsigned, dw_ate_unsigned_char, dw_ate_utf}
use Rattle.abi_base.specs.Limits.{depth_limit}
use Rattle.abi_types.specs.Shown.{shown}
use Rattle.dwarf_tree.specs.Trees.{PlainTree}
use Rattle.dwarf_entries.specs.Addresses.{tag_at}
use Rattle.dwarf_entries.specs.Chains.{attribute_along, name_of}
use Rattle.dwarf_entries.specs.Debug.{PlainDwarf}
use Rattle.type_reach.specs.References.{Type_, role_of, tagged_children, type_of}
use Rattle.type_reach.specs.Values.{number_at, wrapped_of}
use Rattle.type_reach.specs.declared.role.Role.{Role}
use Rattle.type_reach.specs.declared.role.Role.TheVariants as role
use Rattle.type_notes.specs.MemberPlaces.{place_text}
use Rattle.type_notes.specs.Texts.{dimensions_text, is_signed_encoding, name_text, number_text}

-- ---- types (DWARF 5, section 5 "Type Entries")

-- the word for a base type, by its encoding (section 7.8 "Base Type Attribute Encodings")
unfoldable pub encoding_word : ℕ → List ℕ
encoding_word encoding =
    if is_signed_encoding encoding then codes "signed integer"
    else (if encoding == dw_ate_unsigned || (encoding == dw_ate_unsigned_char || encoding == dw_ate_utf) then codes "unsigned integer"
    else (if encoding == dw_ate_boolean then codes "boolean"
    else (if encoding == dw_ate_float then codes "float"
    else (if encoding == dw_ate_complex_float then codes "complex float"
    else (if encoding == dw_ate_decimal_float then codes "decimal float" else codes "number")))))

abbrev pub size_of : PlainTree → ℕ → List ℕ
size_of t e = decimal (number_at t e dw_at_byte_size)

-- A base type by its size in bytes and the word for its encoding, since compilers use different names for it.
abbrev pub base_text : PlainTree → ℕ → List ℕ
base_text t e = concat (size_of t e ∷ codes "-byte " ∷ encoding_word (number_at t e dw_at_encoding) ∷ [])

abbrev pub keyword_of : ℕ → List ℕ
keyword_of tag = if tag == dw_tag_structure_type then codes "struct " else (if tag == dw_tag_union_type then codes "union " else codes "enum ")

-- a name, or the size of a type without a name
abbrev pub name_or_size : PlainTree → ℕ → Option (List ℕ) → List ℕ
name_or_size t e (Some name) = shown name
name_or_size t e None = codes "of size " ++ size_of t e

abbrev pub tag_text : PlainDwarf → ℕ → List ℕ
tag_text d e = keyword_of (tag_at d.tree e) ++ name_or_size d.tree e (name_of d e)

abbrev pub array_text : PlainTree → ℕ → List ℕ
array_text t e = concat (codes "array " ∷ dimensions_text t e ∷ codes " of " ∷ [])

-- What an entry of a role adds to the text of a type. Typedefs and qualifiers add nothing.
abbrev pub word_for : Role → PlainDwarf → ℕ → List ℕ
word_for role.Base d e = base_text d.tree e
word_for role.Aggregate d e = tag_text d e
word_for role.Enumeration d e = tag_text d e
word_for role.Pointer d e = codes "pointer to "
word_for role.Array d e = array_text d.tree e
word_for role.Function d e = codes "function"
word_for _ d e = []

unfoldable pub type_word : PlainDwarf → ℕ → List ℕ
type_word d e = word_for (role_of d.tree e) d e

-- the text continues with the type of an entry of this role
abbrev pub goes_on : Role → Bool
goes_on role.Wrapper = true
goes_on role.Pointer = true
goes_on role.Array = true
goes_on _ = false

-- A type, within this many entries of its chain; the text of a longer chain is cut off.
unfoldable pub type_text : PlainDwarf → ℕ → Type_ → List ℕ
type_text d zero r = []
type_text d (suc n) None = codes "void"
type_text d (suc n) (Some e) = type_word d e ++ (if goes_on (role_of d.tree e) then type_text d n (type_of d.tree e) else [])

-- ---- members and enumerators (DWARF 5, sections 5.7.6 "Data Member Entries" and 5.7 "Enumeration Type Entries")

-- a member by its name, its position and its type
unfoldable pub member_text : PlainDwarf → ℕ → List ℕ
member_text d m =
    concat (codes "member " ∷ name_text (name_of d m) ∷ place_text d m ∷ codes ": " ∷ type_text d (depth_limit + 1) (type_of d.tree m) ∷ [])

-- an enumerator by its name and its value, modulo 2^64
unfoldable pub enumerator_text : PlainDwarf → ℕ → List ℕ
enumerator_text d c =
    concat (codes "enumerator " ∷ name_text (name_of d c) ∷ codes " " ∷ number_text (wrapped_of (attribute_along d.tree c dw_at_const_value)) ∷ [])

abbrev pub part_text : PlainDwarf → ℕ → List ℕ
part_text d m = if tag_at d.tree m == dw_tag_enumerator then enumerator_text d m else member_text d m

-- ---- definitions

-- the members of a structure or a union, or the enumerators of an enumeration
unfoldable pub parts_of : PlainTree → ℕ → List ℕ
parts_of t e = tagged_children t e (if tag_at t e == dw_tag_enumeration_type then dw_tag_enumerator else dw_tag_member)

abbrev pub size_text : PlainTree → ℕ → List ℕ
size_text t e = codes "size " ++ size_of t e

abbrev pub part_behind : PlainDwarf → ℕ → List ℕ
part_behind d m = codes ", " ++ part_text d m

-- a whole definition: its size, and its members or enumerators in order
unfoldable pub definition_text : PlainDwarf → ℕ → List ℕ
definition_text d e = size_text d.tree e ++ flat_map (part_behind d) (parts_of d.tree e)
