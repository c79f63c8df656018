-- The new export that an old one binds to.
use Rattle.std.specs.Prelude.{List, Option, slice_get, option_and_then}
use Rattle.abi_types.specs.Exports.{PlainExport}
use Rattle.elf_bind.specs.Binding.{bind_to}

abbrev pub bound_in : List PlainExport → PlainExport → Option PlainExport
bound_in new e = option_and_then (slice_get new) (bind_to new e)
