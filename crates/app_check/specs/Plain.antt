-- Imports of the code, without the addresses of their names in memory.
use Rattle.std.specs.Prelude.{List, map}
use Rattle.std.specs.Option.{option_map}
use Rattle.elf_needs.specs.Plain.{plain_need}
use Rattle.app_check.specs.declared.import.Import.{Import}
use Rattle.app_check.specs.Imports.{PlainImport}

abbrev pub plain_import : Import → PlainImport
plain_import i = record { symbol = i.symbol; name = i.name.now; need = option_map plain_need i.need }

abbrev pub plain_imports : List Import → List PlainImport
plain_imports imports = map plain_import imports
