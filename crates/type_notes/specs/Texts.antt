-- The printed text of an entry in each aspect.
use Rattle.std.specs.Prelude.{ℕ, ◌+◌, Bool, true, false, if◌then◌else◌, ◌==◌, ◌||◌, List, [], ◌∷◌, ◌++◌, drop, Option, Some, None, codes, decimal, negsuc}
use Rattle.std.specs.List.{concat, flat_map, list_any}
use Rattle.abi_base.specs.Dwarf.{dw_tag_subrange_type, dw_tag_enumerator, dw_tag_formal_parameter, dw_tag_const_type, dw_tag_volatile_type, dw_tag_restrict_type, dw_tag_atomic_type, dw_at_count, dw_at_upper_bound, dw_at_const_value, dw_at_encoding, dw_ate_signed, dw_ate_signed_char}
use Rattle.abi_base.specs.Limits.{depth_limit}
use Rattle.abi_types.specs.Shown.{shown}
use Rattle.dwarf_forms.specs.declared.values.Value.{Value}
use Rattle.dwarf_forms.specs.declared.values.Value.TheVariants as value
use Rattle.dwarf_tree.specs.Trees.{PlainTree}
use Rattle.dwarf_entries.specs.Chains.{attribute_along, name_of}
use Rattle.dwarf_entries.specs.Debug.{PlainDwarf}
use Rattle.dwarf_entries.specs.FlagsAndBlocks.{flag_value_along}
use Rattle.type_reach.specs.References.{Type_, body_of, tagged_children, type_of}
use Rattle.type_reach.specs.Values.{counted_to, natural_of, number_at}
use Rattle.type_notes.specs.declared.aspect.Aspect.{Aspect}
use Rattle.type_notes.specs.declared.aspect.Aspect.TheVariants.{Dimensions, Prototyped, CallingConvention, AddressClass, NoReturn, ParameterNames, Endianity, Sign, Const, Volatile, Restrict, Atomic, ConstObject, VolatileObject}
use Rattle.type_notes.specs.Chains.{behind, has_qualifier}

abbrev pub none : List ℕ
none = codes "none"

-- ---- dimensions (DWARF 5, sections 5.5 "Array Type Entries" and 5.13 "Subrange Type Entries")

abbrev pub either_number : Option ℕ → Option ℕ → Option ℕ
either_number (Some n) other = Some n
either_number None other = other

-- The number of elements of a dimension: its count, or one more than its upper bound. A dimension without a constant for either is
-- open.
unfoldable pub dimension_of : PlainTree → ℕ → Option ℕ
dimension_of t s = either_number (natural_of (attribute_along t s dw_at_count)) (counted_to (attribute_along t s dw_at_upper_bound))

-- `[]` if the dimension is open, else `[N]`
abbrev pub dimension_text : Option ℕ → List ℕ
dimension_text None = codes "[]"
dimension_text (Some n) = concat (codes "[" ∷ decimal n ∷ codes "]" ∷ [])

-- all dimensions of an array, in order
unfoldable pub dimensions_text : PlainTree → ℕ → List ℕ
dimensions_text t e = flat_map (λ s. dimension_text (dimension_of t s)) (tagged_children t e dw_tag_subrange_type)

-- ---- flags and numbers

abbrev pub word_if : Bool → List ℕ → List ℕ
word_if holds word = if holds then word else none

abbrev pub number_text : Option ℕ → List ℕ
number_text None = none
number_text (Some n) = decimal n

-- the value of an entry's attribute, if it is a constant
abbrev pub constant_text : PlainTree → ℕ → ℕ → List ℕ
constant_text t e name = number_text (natural_of (attribute_along t e name))

-- ---- the sign of an enumeration (DWARF 5, section 5.7 "Enumeration Type Entries")

abbrev pub is_negative : Option Value → Bool
is_negative (Some (value.Signed (negsuc n))) = true
is_negative other = false

-- an enumerator has a negative constant
abbrev pub has_negative : PlainTree → ℕ → Bool
has_negative t e = list_any (λ c. is_negative (attribute_along t c dw_at_const_value)) (tagged_children t e dw_tag_enumerator)

abbrev pub is_signed_encoding : ℕ → Bool
is_signed_encoding encoding = encoding == dw_ate_signed || encoding == dw_ate_signed_char

abbrev pub signed_by : PlainTree → Type_ → Bool → Bool
signed_by t (Some b) negative = is_signed_encoding (number_at t b dw_at_encoding)
signed_by t None negative = negative

-- An enumeration with a type has a sign if the encoding of that type is signed; one without a type, if some enumerator is negative.
unfoldable pub has_sign : PlainTree → ℕ → Bool
has_sign t e = signed_by t (behind t (depth_limit + 1) (type_of t e)) (has_negative t e)

abbrev pub sign_word : Bool → List ℕ
sign_word sign = if sign then codes "signed" else codes "unsigned"

-- ---- the names of parameters (DWARF 5, section 4.1 "Data Object Entries")

abbrev pub name_text : Option (List ℕ) → List ℕ
name_text None = codes "without a name"
name_text (Some name) = shown name

abbrev pub named_behind : PlainDwarf → ℕ → List ℕ
named_behind d p = codes ", " ++ name_text (name_of d p)

-- the names, with `, ` between them: each comes with a separator in front, and the first separator is dropped
unfoldable pub names_text : PlainDwarf → ℕ → List ℕ
names_text d e = drop 2 (flat_map (named_behind d) (tagged_children d.tree (body_of d.tree e) dw_tag_formal_parameter))

-- ---- all aspects

unfoldable pub said : Aspect → PlainDwarf → ℕ → List ℕ
said Dimensions d e = dimensions_text d.tree e
-- DW_AT_prototyped, DW_AT_calling_convention, DW_AT_address_class and DW_AT_noreturn (sections 3.3.1 and 2.12)
said Prototyped d e = word_if (flag_value_along d.tree e 0x27) (codes "prototyped")
said CallingConvention d e = constant_text d.tree e 0x36
said AddressClass d e = constant_text d.tree e 0x33
said NoReturn d e = word_if (flag_value_along d.tree e 0x87) (codes "noreturn")
said ParameterNames d e = names_text d e
-- DW_AT_endianity (section 5.1 "Base Type Entries")
said Endianity d e = constant_text d.tree e 0x65
said Sign d e = sign_word (has_sign d.tree e)
said Const d e = word_if (has_qualifier d.tree dw_tag_const_type e) (codes "const")
said Volatile d e = word_if (has_qualifier d.tree dw_tag_volatile_type e) (codes "volatile")
said Restrict d e = word_if (has_qualifier d.tree dw_tag_restrict_type e) (codes "restrict")
said Atomic d e = word_if (has_qualifier d.tree dw_tag_atomic_type e) (codes "atomic")
said ConstObject d e = word_if (has_qualifier d.tree dw_tag_const_type e) (codes "const")
said VolatileObject d e = word_if (has_qualifier d.tree dw_tag_volatile_type e) (codes "volatile")
