use Rattle.std.proofs.Common.{◌≡◌}
use Rattle.dwarf_files.proofs.ItemLemmas.{before}
use Rattle.dwarf_files.specs.Tables.{items, entry_of}
use Rattle.dwarf_files.proofs.tables.entries_by_format.Given as goal

abbrev pub invariant-entries : goal.invariant-entries
invariant-entries l =
    before l.entries (items (entry_of l.bytes l.format) l.left l.place) ≡ items (entry_of l.bytes l.format) l.count l.at

abbrev pub decreases-entries : goal.decreases-entries
decreases-entries l = l.left
