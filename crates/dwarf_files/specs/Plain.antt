-- Headers and sections of the code, with their bytes as lists.
use Rattle.std.specs.Prelude.{ℕ}
use Rattle.dwarf_files.specs.declared.headers.Header.{Header}
use Rattle.dwarf_files.specs.declared.sections.LineSections.{LineSections}
use Rattle.dwarf_files.specs.Names.{PlainHeader}
use Rattle.dwarf_files.specs.Programs.{LineProgram}

abbrev pub plain_header : Header → PlainHeader
plain_header h = record { bytes = h.bytes.now; str = h.str.now; line_str = h.line_str.now; version = h.version; tables = h.tables }

abbrev pub program_at : LineSections → ℕ → LineProgram
program_at s at = record { line = s.line.now; str = s.str.now; line_str = s.line_str.now; at = at }
