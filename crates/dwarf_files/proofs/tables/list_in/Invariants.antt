use Rattle.std.proofs.Common.{◌≡◌, ◌-◌, length}
use Rattle.dwarf_files.proofs.ItemLemmas.{before}
use Rattle.dwarf_files.specs.Lists.{list_of}
use Rattle.dwarf_files.proofs.tables.list_in.Given as goal

abbrev pub invariant-items : goal.invariant-items
invariant-items l = before l.entries (list_of l.files l.bytes l.place) ≡ list_of l.files l.bytes l.at

abbrev pub decreases-items : goal.decreases-items
decreases-items l = length l.bytes - l.place
