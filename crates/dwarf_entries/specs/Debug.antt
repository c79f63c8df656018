-- The debug information of a file: the bytes of its sections, the tree of its entries, and the context that a unit's root gives.
use Rattle.std.specs.Prelude.{ℕ, ◌==◌, Bool, false, List, Option, Some, None, Result, Ok, Err, pos}
use Rattle.std.specs.Option.{option_map_or}
use Rattle.abi_base.specs.Dwarf.{dw_at_low_pc, dw_at_language, dw_at_str_offsets_base, dw_at_addr_base, dw_at_rnglists_base, dw_lang_mips_assembler}
use Rattle.abi_base.specs.declared.fault.Fault.{Fault}
use Rattle.dwarf_forms.specs.declared.sections.Sections.{Sections}
use Rattle.dwarf_forms.specs.declared.values.Value.{Value}
use Rattle.dwarf_forms.specs.declared.values.Value.TheVariants as value
use Rattle.dwarf_text.specs.declared.bases.Bases.{Bases}
use Rattle.dwarf_text.specs.Texts.{text_of, address_of}
use Rattle.dwarf_tree.specs.Trees.{PlainTree, entry_at, own_of, root_of, tree_of}

-- the bytes of the debug sections
pub record PlainSections : Type 0 where
  pub info : List ℕ
  pub abbrev_ : List ℕ
  pub str : List ℕ
  pub line_str : List ℕ
  pub str_offsets : List ℕ
  pub addr : List ℕ
  pub rnglists : List ℕ
  pub ranges : List ℕ

pub record PlainDwarf : Type 0 where
  pub sections : PlainSections
  pub tree : PlainTree

-- the debug information of sections whose units and entries have no fault
abbrev pub dwarf_of : PlainSections → PlainDwarf
dwarf_of s = record { sections = s; tree = tree_of s.info s.abbrev_ }

abbrev pub plain_sections : Sections → PlainSections
plain_sections s = record {
  info = s.info.now;
  abbrev_ = s.abbrev.now;
  str = s.str.now;
  line_str = s.line_str.now;
  str_offsets = s.str_offsets.now;
  addr = s.addr.now;
  rnglists = s.rnglists.now;
  ranges = s.ranges.now;
}

-- ---- the context of a unit, from its root (DWARF 5, section 3.1.1 "Full and Partial Compilation Unit Entries")

-- the first value of an attribute of the root of a unit
abbrev pub root_own : PlainTree → ℕ → ℕ → Option Value
root_own t unit name = option_map_or (λ root. own_of t root name) (root_of t unit) None

-- an offset into another section; a value of another class has none
abbrev pub section_offset : Option Value → Option ℕ
section_offset (Some (value.SectionOffset place)) = Some place
section_offset other = None

abbrev pub base_of : PlainTree → ℕ → ℕ → Option ℕ
base_of t unit name = section_offset (root_own t unit name)

-- the address of a value, or 0 where there is none
abbrev pub address_or_zero : Result ℕ Fault → ℕ
address_or_zero (Ok address) = address
address_or_zero (Err fault) = 0

-- the base address of a unit's ranges: the root's low_pc, or 0
abbrev pub low_of : PlainDwarf → ℕ → ℕ
low_of d unit = option_map_or (λ v. address_or_zero (address_of d.sections.addr (base_of d.tree unit dw_at_addr_base) 0 v)) (root_own d.tree unit dw_at_low_pc) 0

-- the bases of a unit's parts of other sections
unfoldable pub bases_of : PlainDwarf → ℕ → Bases
bases_of d unit = record {
  str_offsets = base_of d.tree unit dw_at_str_offsets_base;
  addr = base_of d.tree unit dw_at_addr_base;
  rnglists = base_of d.tree unit dw_at_rnglists_base;
  low = low_of d unit;
}

abbrev pub is_number : ℕ → Option Value → Bool
is_number n (Some (value.Unsigned m)) = m == n
is_number n (Some (value.Signed (pos m))) = m == n
is_number n other = false

-- the unit is written in assembler
unfoldable pub is_assembler : PlainTree → ℕ → Bool
is_assembler t unit = is_number dw_lang_mips_assembler (root_own t unit dw_at_language)

-- ---- strings and addresses, from the bases of an entry's unit

unfoldable pub text_at_entry : PlainDwarf → ℕ → Value → Result (List ℕ) Fault
text_at_entry d e v =
    text_of d.sections.info d.sections.str d.sections.line_str d.sections.str_offsets (bases_of d (entry_at d.tree e).unit).str_offsets (entry_at d.tree e).offset v

unfoldable pub address_at_entry : PlainDwarf → ℕ → Value → Result ℕ Fault
address_at_entry d e v = address_of d.sections.addr (bases_of d (entry_at d.tree e).unit).addr (entry_at d.tree e).offset v
