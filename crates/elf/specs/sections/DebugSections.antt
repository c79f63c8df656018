-- The debug sections of a file, by name (DWARF 5, section 7.3 "Executable Objects and Shared Objects"; `.debug_ranges` is
-- from DWARF 4).
use Rattle.std.specs.Prelude.{◌≡◌, List, ℕ, [], codes}
use Rattle.std.specs.Option.{unwrap_or}
use Rattle.dwarf_forms.specs.declared.sections.Sections.{Sections}
use Rattle.elf.specs.file.Elf.{section_named}

-- the contents of the first section with this name, empty where there is none
abbrev pub section_or_none : List ℕ → List ℕ → List ℕ
section_or_none f name = unwrap_or (section_named f name) []

abbrev pub debug_info : List ℕ → List ℕ
debug_info f = section_or_none f (codes ".debug_info")

abbrev pub debug_abbrev : List ℕ → List ℕ
debug_abbrev f = section_or_none f (codes ".debug_abbrev")

-- each section is the first one of its name in the file
pub record AreSectionsOf (f : List ℕ) (s : Sections) : Type 0 where
  pub info : s.info.now ≡ debug_info f
  pub abbrevs : s.abbrev.now ≡ debug_abbrev f
  pub str : s.str.now ≡ section_or_none f (codes ".debug_str")
  pub line_str : s.line_str.now ≡ section_or_none f (codes ".debug_line_str")
  pub str_offsets : s.str_offsets.now ≡ section_or_none f (codes ".debug_str_offsets")
  pub addr : s.addr.now ≡ section_or_none f (codes ".debug_addr")
  pub rnglists : s.rnglists.now ≡ section_or_none f (codes ".debug_rnglists")
  pub ranges : s.ranges.now ≡ section_or_none f (codes ".debug_ranges")
