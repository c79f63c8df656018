use Rattle.std.proofs.Common.{◌≡◌, drop, None}
use Rattle.dwarf_files.proofs.EntryLemmas.{rest}
use Rattle.dwarf_files.specs.Tables.{values_of}
use Rattle.dwarf_files.proofs.entries.entry_in.Given as goal

abbrev pub invariant-loop-pair : goal.invariant-loop-pair
invariant-loop-pair l =
    rest l.entry (values_of l.bytes (drop l.pair-index l.format) l.place) ≡ rest (record { path = None; directory = None }) (values_of l.bytes l.format l.at)
