-- The debug information of a file.
use Rattle.std.specs.Prelude.{ℕ, List, codes}
use Rattle.dwarf_entries.specs.Debug.{PlainSections, PlainDwarf, dwarf_of}
use Rattle.elf.specs.sections.DebugSections.{debug_abbrev, debug_info, section_or_none}

-- what the sections of debug information of a file hold; one that is missing holds nothing
unfoldable pub sections_in : List ℕ → PlainSections
sections_in f = record {
  info = debug_info f;
  abbrev_ = debug_abbrev f;
  str = section_or_none f (codes ".debug_str");
  line_str = section_or_none f (codes ".debug_line_str");
  str_offsets = section_or_none f (codes ".debug_str_offsets");
  addr = section_or_none f (codes ".debug_addr");
  rnglists = section_or_none f (codes ".debug_rnglists");
  ranges = section_or_none f (codes ".debug_ranges");
}

-- the debug information of a file whose units and entries have no fault
unfoldable pub debug_of : List ℕ → PlainDwarf
debug_of f = dwarf_of (sections_in f)
