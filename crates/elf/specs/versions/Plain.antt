-- A version of the code, without the address of its name in memory.
use Rattle.std.specs.Option.{option_copied}
use Rattle.elf.specs.declared.versions.version.Version.{Version}
use Rattle.elf.specs.versions.Versions.{PlainVersion}

abbrev pub plain_version : Version → PlainVersion
plain_version v = record { name = option_copied v.name; index = v.index; hidden = v.hidden }
