-- References between entries, and the chain of entries from which an entry inherits its attributes (DWARF 5, sections 2.13
-- "Declarations, Definitions and Completions", 3.3.8.1 "Abstract Instances" and 3.3.8.2 "Concrete Instances").
use Rattle.std.specs.Prelude.{ℕ, zero, suc, ◌+◌, ◌-◌, ◌==◌, Bool, true, false, if◌then◌else◌, is_some, List, [], ◌∷◌, length, find, position, slice_index_or, Option, Some, None, Result, Ok, Err}
use Rattle.std.specs.List.{filter_map, range_with_len, list_any}
use Rattle.std.specs.Option.{option_map, option_map_or}
use Rattle.abi_base.specs.Dwarf.{dw_tag_array_type, dw_tag_enumeration_type, dw_tag_formal_parameter, dw_tag_member, dw_tag_pointer_type, dw_tag_compile_unit, dw_tag_structure_type, dw_tag_subroutine_type, dw_tag_typedef, dw_tag_union_type, dw_tag_unspecified_parameters, dw_tag_subrange_type, dw_tag_base_type, dw_tag_const_type, dw_tag_enumerator, dw_tag_subprogram, dw_tag_variable, dw_tag_volatile_type, dw_tag_restrict_type, dw_tag_partial_unit, dw_tag_type_unit, dw_tag_atomic_type, dw_at_location, dw_at_name, dw_at_low_pc, dw_at_abstract_origin, dw_at_declaration, dw_at_specification, dw_at_entry_pc, dw_at_ranges}
use Rattle.abi_base.specs.declared.fault.Fault.{Fault}
use Rattle.dwarf_forms.specs.declared.values.Value.{Value}
use Rattle.dwarf_forms.specs.declared.values.Value.TheVariants as value
use Rattle.dwarf_tree.specs.declared.head.Head.{Head}
use Rattle.dwarf_tree.specs.Trees.{PlainTree, entry_at, head_at, own_of, entry_of}
use Rattle.abi_base.specs.Limits.{chain_limit}
use Rattle.dwarf_entries.specs.declared.link.Link.{Link}
use Rattle.dwarf_entries.specs.declared.link.Link.TheVariants.{Missing, Nowhere, To}
use Rattle.dwarf_entries.specs.Debug.{PlainDwarf, text_at_entry}

-- the supported tags; entries with other tags are part of the tree, but their attributes are not used
abbrev pub read_tags : List ℕ
read_tags =
    dw_tag_array_type
    ∷ dw_tag_enumeration_type
    ∷ dw_tag_formal_parameter
    ∷ dw_tag_member
    ∷ dw_tag_pointer_type
    ∷ dw_tag_compile_unit
    ∷ dw_tag_structure_type
    ∷ dw_tag_subroutine_type
    ∷ dw_tag_typedef
    ∷ dw_tag_union_type
    ∷ dw_tag_unspecified_parameters
    ∷ dw_tag_subrange_type
    ∷ dw_tag_base_type
    ∷ dw_tag_const_type
    ∷ dw_tag_enumerator
    ∷ dw_tag_subprogram
    ∷ dw_tag_variable
    ∷ dw_tag_volatile_type
    ∷ dw_tag_restrict_type
    ∷ dw_tag_partial_unit
    ∷ dw_tag_type_unit
    ∷ dw_tag_atomic_type
    ∷ []

unfoldable pub is_read_tag : ℕ → Bool
is_read_tag tag = list_any (λ t. t == tag) read_tags

-- ---- the targets of references

abbrev pub has_signature : ℕ → Head → Bool
has_signature signature head = option_map_or (λ s. s == signature) head.signature false

-- The entry for a signature: the type entry of the first type unit with this signature (DWARF 5, sections 3.1.4 "Type Unit
-- Entries" and 7.32 "Type Signature Computation").
unfoldable pub signed_of : PlainTree → ℕ → Option ℕ
signed_of t signature = option_map_or (λ unit. entry_of t (head_at t unit).type_entry) (position (has_signature signature) t.units) None

-- the entry to which a value refers (DWARF 5, section 7.5.5 "Classes and Forms", class reference)
abbrev pub target_of : PlainTree → Value → Option ℕ
target_of t (value.Reference offset) = entry_of t offset
target_of t (value.Signature signature) = signed_of t signature
target_of t other = None

-- ---- the chain

-- the link that an attribute makes, to an entry or nowhere; an entry with an unsupported tag gets no link
abbrev pub link_to : PlainTree → Option ℕ → Link
link_to t None = Nowhere
link_to t (Some f) = if is_read_tag (entry_at t f).tag then To f else Missing

-- the link that an attribute makes, where the entry may lack it
abbrev pub read_link : PlainTree → Option Value → Link
read_link t None = Missing
read_link t (Some v) = link_to t (target_of t v)

-- the link that an attribute of an entry makes
abbrev pub link_by : PlainTree → ℕ → ℕ → Link
link_by t e name = read_link t (own_of t e name)

-- there is a link, but to no entry
abbrev pub is_nowhere : Link → Bool
is_nowhere Nowhere = true
is_nowhere (To f) = false
is_nowhere Missing = false

-- the entry of a link
abbrev pub linked : Link → Option ℕ
linked (To f) = Some f
linked Nowhere = None
linked Missing = None

-- the entry of the first link, or of the second where the first is missing
abbrev pub either_link : Link → Link → Option ℕ
either_link Missing other = linked other
either_link Nowhere other = None
either_link (To f) other = Some f

-- the next entry of the chain: by abstract_origin, else by specification
unfoldable pub link_of : PlainTree → ℕ → Option ℕ
link_of t e = either_link (link_by t e dw_at_abstract_origin) (link_by t e dw_at_specification)

-- the entry after this many links
unfoldable pub after_links : PlainTree → ℕ → ℕ → Option ℕ
after_links t e zero = Some e
after_links t e (suc n) = option_map_or (link_of t) (after_links t e n) None

-- the chain has more links than the limit
abbrev pub is_too_deep : PlainTree → ℕ → Bool
is_too_deep t e = is_some (after_links t e (chain_limit + 1))

-- an entry and those to which its links lead, at most this many in all
abbrev pub chain_within : PlainTree → ℕ → ℕ → List ℕ
chain_within t e entries = filter_map (after_links t e) (range_with_len 0 entries)

-- those within the limit
unfoldable pub chain_of : PlainTree → ℕ → List ℕ
chain_of t e = chain_within t e (chain_limit + 1)

-- the last one of them
abbrev pub origin_of : PlainTree → ℕ → ℕ
origin_of t e = slice_index_or (chain_of t e) (length (chain_of t e) - 1) e

-- the first one of them that has an attribute
unfoldable pub holder_of : PlainTree → ℕ → ℕ → Option ℕ
holder_of t e name = find (λ f. is_some (own_of t f name)) (chain_of t e)

-- The attributes that apply only to the entry itself: its addresses in the program, and whether it is a declaration. The others
-- are inherited along the chain.
abbrev pub own_attributes : List ℕ
own_attributes = dw_at_low_pc ∷ dw_at_ranges ∷ dw_at_entry_pc ∷ dw_at_location ∷ dw_at_declaration ∷ []

unfoldable pub is_own_attribute : ℕ → Bool
is_own_attribute name = list_any (λ a. a == name) own_attributes

-- the value of an attribute of an entry: its own if the attribute is not inherited, else that of the chain
abbrev pub attribute_along : PlainTree → ℕ → ℕ → Option Value
attribute_along t e name =
    if is_own_attribute name then own_of t e name else option_map_or (λ f. own_of t f name) (holder_of t e name) None

-- ---- names

abbrev pub known : {A E : Type 0} → Result A E → Option A
known (Ok x) = Some x
known (Err e) = None

-- the string of an attribute of an entry itself, if it has the attribute
abbrev pub own_text : PlainDwarf → ℕ → ℕ → Option (Result (List ℕ) Fault)
own_text d e name = option_map (text_at_entry d e) (own_of d.tree e name)

abbrev pub known_text : Option (Result (List ℕ) Fault) → Option (List ℕ)
known_text None = None
known_text (Some text) = known text

-- the name of an entry, along the chain
unfoldable pub name_of : PlainDwarf → ℕ → Option (List ℕ)
name_of d e = option_map_or (λ f. known_text (own_text d f dw_at_name)) (holder_of d.tree e dw_at_name) None
