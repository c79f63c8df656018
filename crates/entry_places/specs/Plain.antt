-- Sections and places of the code, as lists.
use Rattle.std.specs.Prelude.{ℕ, List}
use Rattle.dwarf_forms.specs.declared.sections.Sections.{Sections}
use Rattle.entry_places.specs.declared.place.DeclarationPlace.{DeclarationPlace}
use Rattle.entry_places.specs.Coordinates.{DebugBytes, PlainPlace}

abbrev pub debug_bytes : Sections → List ℕ → DebugBytes
debug_bytes s line = record { info = s.info.now; abbrevs = s.abbrev.now; line = line; str = s.str.now; line_str = s.line_str.now }

abbrev pub plain_place : DeclarationPlace → PlainPlace
plain_place p = record { file = p.file.items; line = p.line }
