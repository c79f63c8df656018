-- The storage of a tree: for each entry the offset of its attribute specifications in `.debug_abbrev` and the end of its subtree,
-- and for each unit its root. Attribute values are not stored: they are those in the bytes.
use Rattle.std.specs.Prelude.{◌≡◌, ◌≢◌, ◌<◌, ◌≤◌, ◌+◌, ◌^◌, ◌%◌, ◌/◌, ◌⊎◌, ◌==◌, find, option_map, unwrap_or, ℕ, true, All, AllPairs, List, [], ◌∷◌, ◌++◌, length, take, map, slice_index, slice_index_or, Some, None, Option, Result, Ok, Err, pos}
use Rattle.abi_base.specs.declared.fault.Fault.{Fault}
use Rattle.abi_base.specs.Dwarf.{dw_at_location, dw_at_name, dw_at_byte_size, dw_at_bit_offset, dw_at_bit_size, dw_at_low_pc, dw_at_language, dw_at_const_value, dw_at_upper_bound, dw_at_abstract_origin, dw_at_count, dw_at_data_member_location, dw_at_declaration, dw_at_encoding, dw_at_specification, dw_at_type, dw_at_entry_pc, dw_at_ranges, dw_at_signature, dw_at_data_bit_offset, dw_at_str_offsets_base, dw_at_addr_base, dw_at_rnglists_base, dw_at_alignment, dw_at_gnu_vector}
use Rattle.abi_base.specs.Leb.{uleb_at}
use Rattle.abi_base.specs.Numbers.{number_at}
use Rattle.dwarf_forms.specs.declared.abbreviations.abbrev.Spec.{Spec}
use Rattle.dwarf_forms.specs.abbreviations.Abbrevs.{specs_run}
use Rattle.dwarf_forms.specs.declared.values.Value.{Value}
use Rattle.dwarf_forms.specs.Values.{value_at}
use Rattle.dwarf_units.specs.declared.entry.Entry.{Entry}
use Rattle.dwarf_units.specs.Units.{PlainUnit, attribute_of}
use Rattle.dwarf_tree.specs.declared.attribute_source.AttributeSource.{AttributeSource}
use Rattle.dwarf_tree.specs.declared.head.Head.{Head}
use Rattle.dwarf_tree.specs.declared.entry_records.EntryHead.{EntryHead}
use Rattle.dwarf_tree.specs.declared.entry_records.AbbreviationLayout.{AbbreviationLayout}
use Rattle.dwarf_tree.specs.declared.entry_records.Slot.{Slot}
use Rattle.dwarf_tree.specs.declared.entry_records.EntryRecord.{EntryRecord}
use Rattle.dwarf_tree.specs.declared.long_texts.LongText.{LongText}
use Rattle.dwarf_tree.specs.LongTexts.{IsLongText}
use Rattle.dwarf_tree.specs.Trees.{TreeEntry, PlainTree, head_of, no_head, placed_entries, depth_at, count_below, is_after, root_of, IsOrdered}

abbrev pub Attributes : Type 0
Attributes = List (ℕ × Value)

-- ---- the values of an entry, up to the first one with a fault

abbrev pub value_before : ℕ → Result (Value × ℕ) Fault → (ℕ → Attributes) → Attributes
value_before name (Ok v) others = (name, v.0) ∷ others v.1
value_before name (Err f) others = []

unfoldable pub values_from : List ℕ → Head → ℕ → List Spec → ℕ → Attributes
values_from info head entry [] at = []
values_from info head entry (s ∷ specs) at =
    value_before s.attribute (value_at s.form s.implicit head.offset head.end entry info at) (values_from info head entry specs)

-- the remaining values, from an offset in `.debug_abbrev` and an offset in `.debug_info` on
abbrev pub left_values : List ℕ → List ℕ → Head → ℕ → ℕ → ℕ → Attributes
left_values info abbrevs head entry pairs at = values_from info head entry (specs_run abbrevs pairs).items at

-- The first value of an attribute is the same from one pair of offsets in `.debug_abbrev` and `.debug_info` on as from another, in
-- a unit that ends at an offset.
abbrev pub FindSame : List ℕ → ℕ → ℕ → ℕ × ℕ → ℕ × ℕ → Type 0
FindSame abbrevs unit_end name from other =
    (info : List ℕ) (head : Head) (entry : ℕ) → head.end ≡ unit_end → unit_end ≤ length info
    → attribute_of (left_values info abbrevs head entry from.0 from.1) name ≡ attribute_of (left_values info abbrevs head entry other.0 other.1) name

-- the value that was read, if it has no fault
abbrev pub value_read : Result (Value × ℕ) Fault → Option Value
value_read (Ok v) = Some v.0
value_read (Err f) = None

-- the values after a code
abbrev pub behind : Option (ℕ × ℕ) → (ℕ → Attributes) → Attributes
behind None values = []
behind (Some code) values = values code.1

-- the values of an entry of the tree
unfoldable pub values_of : List ℕ → List ℕ → Head → EntryHead → Attributes
values_of info abbrevs head kept = behind (uleb_at (take head.end info) kept.offset) (left_values info abbrevs head kept.offset kept.specs_from)

-- a four-byte number encodes the first value of an attribute of an entry, in a form
pub record SpellsNumber (info abbrevs : List ℕ) (head : Head) (kept : EntryHead) (name form n : ℕ) : Type 0 where
  pub place : ℕ
  pub number : number_at 4 (take head.end info) place ≡ Some n
  pub value : value_read (value_at form (pos 0) head.offset head.end kept.offset info place) ≡ attribute_of (values_of info abbrevs head kept) name

-- ---- the tree

abbrev pub Decoder : Type 0
Decoder = EntryHead → Attributes

-- the attributes of an entry of these units, read from the bytes
abbrev pub decoder : List ℕ → List ℕ → List Head → Decoder
decoder info abbrevs units kept = values_of info abbrevs (slice_index_or units kept.unit no_head) kept

abbrev pub plain_entry : Decoder → EntryHead → TreeEntry
plain_entry attributes kept = record {
  offset = kept.offset;
  depth = kept.depth;
  tag = kept.tag;
  attributes = attributes kept;
  unit = kept.unit;
}

-- ---- entries and shapes

abbrev pub no_shape : AbbreviationLayout
no_shape = record { tag = 0; names = 0; specs_from = 0; slots_from = 0; slots_to = 0; unit = 0 }

-- the shape with this number, or an empty one past the end
abbrev pub shape_at : List AbbreviationLayout → ℕ → AbbreviationLayout
shape_at shapes number = slice_index_or shapes number no_shape

-- a stored entry, completed from a shape
abbrev pub shaped : AbbreviationLayout → EntryRecord → EntryHead
shaped shape stored = record {
  tag = shape.tag;
  offset = stored.offset;
  specs_from = shape.specs_from;
  depth = stored.depth;
  unit = shape.unit;
  names = shape.names;
}

-- a stored entry, completed from its own shape
abbrev pub kept_by : List AbbreviationLayout → EntryRecord → EntryHead
kept_by shapes stored = shaped (shape_at shapes stored.shape) stored

-- the first value of an attribute of a stored entry
abbrev pub asked_value : AttributeSource → ℕ → Option Value
asked_value asked name = attribute_of (values_of asked.info.now asked.abbrevs.now asked.head.now (shaped asked.shape.now asked.stored)) name

-- the number of a stored entry's unit
abbrev pub unit_in : List AbbreviationLayout → EntryRecord → ℕ
unit_in shapes stored = (shape_at shapes stored.shape).unit

abbrev pub plain_stored : List AbbreviationLayout → Decoder → EntryRecord → TreeEntry
plain_stored shapes attributes stored = plain_entry attributes (kept_by shapes stored)

abbrev pub plain_entries : List AbbreviationLayout → Decoder → List EntryRecord → List TreeEntry
plain_entries shapes attributes stored = map (plain_stored shapes attributes) stored

abbrev pub kept_tree : List Head → List AbbreviationLayout → Decoder → List EntryRecord → PlainTree
kept_tree units shapes attributes entries = record { units = units; entries = plain_entries shapes attributes entries }

-- a tree while it is read, and the bytes from which it is read
pub record PartialTree : Type 0 where
  pub info : List ℕ
  pub abbrevs : List ℕ
  pub tree : PlainTree

abbrev pub partial_tree : List ℕ → List ℕ → List Head → List AbbreviationLayout → List EntryRecord → PartialTree
partial_tree info abbrevs units shapes entries = record { info = info; abbrevs = abbrevs; tree = kept_tree units shapes (decoder info abbrevs units) entries }

-- the same bytes, and another tree
abbrev pub now_with : PartialTree → List Head → List TreeEntry → PartialTree
now_with g units entries = record { info = g.info; abbrevs = g.abbrevs; tree = record { units = units; entries = entries } }

-- the attributes that readers of entries use, each with its own bit
unfoldable pub own_bits : List (ℕ × ℕ)
own_bits =
    (dw_at_location, 0)
    ∷ (dw_at_name, 1)
    ∷ (dw_at_byte_size, 2)
    ∷ (dw_at_bit_offset, 3)
    ∷ (dw_at_bit_size, 4)
    ∷ (dw_at_low_pc, 5)
    ∷ (dw_at_language, 6)
    ∷ (dw_at_const_value, 7)
    ∷ (dw_at_upper_bound, 8)
    ∷ (dw_at_abstract_origin, 9)
    ∷ (dw_at_count, 10)
    ∷ (dw_at_data_member_location, 11)
    ∷ (dw_at_declaration, 12)
    ∷ (dw_at_encoding, 13)
    ∷ (dw_at_specification, 14)
    ∷ (dw_at_type, 15)
    ∷ (dw_at_entry_pc, 16)
    ∷ (dw_at_ranges, 17)
    ∷ (dw_at_signature, 18)
    ∷ (dw_at_data_bit_offset, 19)
    ∷ (dw_at_str_offsets_base, 20)
    ∷ (dw_at_addr_base, 21)
    ∷ (dw_at_rnglists_base, 22)
    ∷ (dw_at_alignment, 23)
    ∷ (dw_at_gnu_vector, 24)
    ∷ []

-- the bit of an attribute: all that readers do not use share one
unfoldable pub bit_of : ℕ → ℕ
bit_of name = unwrap_or (option_map (λ row. row.1) (find (λ row. row.0 == name) own_bits)) 63

-- the bit of an attribute is set
abbrev pub HasName : ℕ → ℕ → Type 0
HasName names name = names / 2 ^ bit_of name % 2 ≡ 1

-- whether readers of entries use an attribute
abbrev pub IsAsked : ℕ → Type 0
IsAsked name = bit_of name ≢ 63

-- the bits of all these attributes are set
abbrev pub HaveNames : ℕ → List ℕ → Type 0
HaveNames names attributes = All (HasName names) attributes

-- the attributes of a list of values
abbrev pub names_in : Attributes → List ℕ
names_in attributes = map (λ a. a.0) attributes

-- the attributes of the specifications at an offset in `.debug_abbrev`
abbrev pub pair_names : List ℕ → ℕ → List ℕ
pair_names abbrevs from = map (λ (s : Spec). s.attribute) (specs_run abbrevs from).items

-- ---- where values begin

-- The value of a slot is the first one of its attribute, among those of the specifications at an offset, in each unit that holds
-- it.
abbrev pub SlotLeadsTo : List ℕ → ℕ → Slot → Type 0
SlotLeadsTo abbrevs specs_from slot =
    (info : List ℕ) (head : Head) (entry at : ℕ) → head.end ≤ length info → at + slot.from ≤ head.end
    → value_read (value_at slot.form (pos 0) head.offset head.end entry info (at + slot.from)) ≡ attribute_of (left_values info abbrevs head entry specs_from at) slot.attribute

-- The slot is that of an attribute specification whose value begins this many bytes after the code. It has the form, unless a
-- constant follows the form.
pub record IsSlotOf (s : Spec) (bytes : ℕ) (slot : Slot) : Type 0 where
  pub attribute : slot.attribute ≡ s.attribute
  pub from : slot.from ≡ bytes
  pub told : slot.form ≢ 0 → (slot.form ≡ s.form) × (s.implicit ≡ pos 0)

-- no slot from one index up to another is for an attribute
abbrev pub NoneBefore : List Slot → ℕ → ℕ → ℕ → Type 0
NoneBefore slots from to name = (k : ℕ) (d : Slot) → from ≤ k → k < to → (slice_index_or slots k d).attribute ≢ name

-- the slots from one index up to another lead to their values, each if it has a form and is the first one of an attribute that
-- readers use
abbrev pub AreSlots : List ℕ → ℕ → List Slot → ℕ → ℕ → Type 0
AreSlots abbrevs specs_from slots from to =
    (k : ℕ) (d : Slot) → from ≤ k → k < to → (slice_index_or slots k d).form ≢ 0 → IsAsked (slice_index_or slots k d).attribute → NoneBefore slots from k (slice_index_or slots k d).attribute → SlotLeadsTo abbrevs specs_from (slice_index_or slots k d)

-- the first slot for an attribute, from one index up to another
pub record IsSlotFor (slots : List Slot) (from to name : ℕ) (slot : Slot) : Type 0 where
  pub place : ℕ
  pub after : from ≤ place
  pub before : place < to
  pub is : slot ≡ slice_index_or slots place slot
  pub named : slot.attribute ≡ name
  pub first : NoneBefore slots from place name

-- a list of slots, extended by others
pub record Extends (slots others : List Slot) : Type 0 where
  pub longer : length slots ≤ length others
  pub same : (k : ℕ) (d : Slot) → k < length slots → slice_index_or others k d ≡ slice_index_or slots k d

-- a search for an attribute that readers use finds the same from one specification on as from another
abbrev pub PassSame : List ℕ → ℕ → ℕ → Type 0
PassSame abbrevs next pairs = (unit_end name at : ℕ) → IsAsked name → FindSame abbrevs unit_end name (next, at) (pairs, at)

-- From a specification on, and this many bytes after a code, a search for an attribute that readers use finds the same as from the
-- first one on, if the slots from an index on are for other attributes.
abbrev pub Passed : List ℕ → ℕ → List Slot → ℕ → ℕ → ℕ → Type 0
Passed abbrevs specs_from slots first pairs from =
    (unit_end name at : ℕ) → at + from ≤ unit_end → IsAsked name → NoneBefore slots first (length slots) name → FindSame abbrevs unit_end name (pairs, at + from) (specs_from, at)

-- a shape agrees with the attribute specifications of its abbreviation
pub record IsLayout (abbrevs : List ℕ) (slots : List Slot) (shape : AbbreviationLayout) : Type 0 where
  pub names : HaveNames shape.names (pair_names abbrevs shape.specs_from)
  pub slots_there : shape.slots_to ≤ length slots
  pub slots_lead : AreSlots abbrevs shape.specs_from slots shape.slots_from shape.slots_to

-- shapes, and the slots of all of them
pub record LayoutTable : Type 0 where
  pub shapes : List AbbreviationLayout
  pub slots : List Slot

-- each shape belongs to a unit of the tree, each unit is inside the section, each entry has a shape, and there are no more shapes
-- than entries
pub record LieInside (info abbrevs : List ℕ) (units : List Head) (shapes : List AbbreviationLayout) (slots : List Slot) (entries : List EntryRecord) : Type 0 where
  pub units_there : All (λ (shape : AbbreviationLayout). shape.unit < length units) shapes
  pub shapes_there : All (λ (stored : EntryRecord). stored.shape < length shapes) entries
  pub shapes_few : length shapes ≤ length entries
  pub shapes_say : All (IsLayout abbrevs slots) shapes
  pub ends_inside : All (λ (head : Head). head.end ≤ length info) units

-- the entry of the tree for an entry of the unit with a number
abbrev pub kept_of : ℕ → ℕ → Entry → EntryHead
kept_of names unit e = record { tag = e.tag; offset = e.offset; specs_from = e.specs_from; depth = e.depth; unit = unit; names = names }

-- the record of an entry whose shape has a number
abbrev pub stored_of : ℕ → Entry → EntryRecord
stored_of shape e = record { offset = e.offset; shape = shape; depth = e.depth }

-- the shape agrees with the abbreviation of an entry of a unit
pub record IsLayoutOf (shape : AbbreviationLayout) (unit : ℕ) (e : Entry) : Type 0 where
  pub tag : shape.tag ≡ e.tag
  pub place : shape.specs_from ≡ e.specs_from
  pub unit_is : shape.unit ≡ unit

-- the last shape of a table is new: it is that of an entry of a unit, with the bits of the entry's attributes
pub record IsNewLayout (abbrevs : List ℕ) (shapes : List AbbreviationLayout) (unit : ℕ) (e : Entry) (grown : LayoutTable) : Type 0 where
  pub shape : AbbreviationLayout
  pub of : IsLayoutOf shape unit e
  pub names : HaveNames shape.names (names_in e.attributes)
  pub slots_there : shape.slots_to ≤ length grown.slots
  pub slots_lead : AreSlots abbrevs shape.specs_from grown.slots shape.slots_from shape.slots_to
  pub pushed : grown.shapes ≡ shapes ++ shape ∷ []

-- The last entry belongs to a unit and has a shape. The shapes are those from before, or these and the shape of the entry.
pub record IsStored (abbrevs : List ℕ) (unit : ℕ) (e : Entry) (shapes : List AbbreviationLayout) (grown : LayoutTable) (entries stored : List EntryRecord) : Type 0 where
  pub shape : ℕ
  pub there : shape < length grown.shapes
  pub of : IsLayoutOf (shape_at grown.shapes shape) unit e
  pub shapes_are : (grown.shapes ≡ shapes) ⊎ IsNewLayout abbrevs shapes unit e grown
  pub pushed : stored ≡ entries ++ stored_of shape e ∷ []

-- a tree with one more unit at the end
abbrev pub with_unit : PlainTree → PlainUnit → PlainTree
with_unit t u = record { units = t.units ++ head_of u ∷ []; entries = t.entries ++ placed_entries (length t.units, u) }

-- ---- order

-- the offsets of the entries ascend
abbrev pub Ascend : List EntryRecord → Type 0
Ascend = AllPairs (λ (a b : EntryRecord). a.offset < b.offset)

-- all entries before a position have smaller offsets
abbrev pub BeginBefore : List EntryRecord → ℕ → ℕ → Type 0
BeginBefore entries offset place = (k : ℕ) (d : EntryRecord) → k < place → (slice_index_or entries k d).offset < offset

-- all entries from a position on have greater offsets
abbrev pub BeginBehind : List EntryRecord → ℕ → ℕ → Type 0
BeginBehind entries offset place = (k : ℕ) (d : EntryRecord) → place ≤ k → k < length entries → offset < (slice_index_or entries k d).offset

-- the entry at an offset, if there is one, is between two positions
pub record StandsBetween (entries : List EntryRecord) (offset from to : ℕ) : Type 0 where
  pub before : BeginBefore entries offset from
  pub behind : BeginBehind entries offset to

-- the units of the entries, as their shapes give them, do not descend
abbrev pub UnitsRise : List AbbreviationLayout → List EntryRecord → Type 0
UnitsRise shapes = AllPairs (λ (a b : EntryRecord). unit_in shapes a ≤ unit_in shapes b)

-- ---- ends and roots

-- where the subtree of an entry ends: the position of the next entry that is no deeper, or the end of the list
abbrev pub end_below : PlainTree → ℕ → ℕ
end_below t e = e + 1 + count_below t e

-- a child is in its parent's subtree, one deeper
pub record IsChild (t : PlainTree) (e i : ℕ) : Type 0 where
  pub after : e < i
  pub before : i < end_below t e
  pub deep : depth_at t i ≡ depth_at t e + 1

-- No child that comes after a position is before `next`, which is after the parent.
pub record LooksFrom (t : PlainTree) (e : ℕ) (after : Option ℕ) (next : ℕ) : Type 0 where
  pub behind : e < next
  pub later : next < end_below t e → is_after after next ≡ true
  pub passed : (i : ℕ) → IsChild t e i → is_after after i ≡ true → next ≤ i

-- the ends are known for all entries from a position on
abbrev pub EndsFrom : PlainTree → List ℕ → ℕ → Type 0
EndsFrom t ends from = (e : ℕ) → from ≤ e → e < length ends → slice_index ends e ≡ end_below t e

pub record AreEnds (t : PlainTree) (ends : List ℕ) : Type 0 where
  pub count : length ends ≡ length t.entries
  pub each : EndsFrom t ends 0

-- the roots of the first units
abbrev pub RootsFirst : PlainTree → List ℕ → Type 0
RootsFirst t roots = (unit : ℕ) → unit < length roots → root_of t unit ≡ Some (slice_index roots unit)

pub record AreRoots (t : PlainTree) (roots : List ℕ) : Type 0 where
  pub count : length roots ≡ length t.units
  pub each : RootsFirst t roots

-- the lists of the code are a tree in order, with its ends and roots, and long texts of the section
pub record IsKept (info abbrevs : List ℕ) (units : List Head) (shapes : List AbbreviationLayout) (slots : List Slot) (entries : List EntryRecord) (ends roots : List ℕ) (texts : List LongText) : Type 0 where
  pub inside : LieInside info abbrevs units shapes slots entries
  pub ordered : IsOrdered (kept_tree units shapes (decoder info abbrevs units) entries)
  pub ends_are : AreEnds (kept_tree units shapes (decoder info abbrevs units) entries) ends
  pub roots_are : AreRoots (kept_tree units shapes (decoder info abbrevs units) entries) roots
  pub texts_are : All (IsLongText info) texts
