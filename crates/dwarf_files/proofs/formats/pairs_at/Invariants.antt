use Rattle.std.proofs.Common.{◌≡◌}
use Rattle.dwarf_files.proofs.ItemLemmas.{before}
use Rattle.dwarf_files.specs.Tables.{items, pair_of}
use Rattle.dwarf_files.proofs.formats.pairs_at.Given as goal

abbrev pub invariant-pairs : goal.invariant-pairs
invariant-pairs l = before l.pairs (items (pair_of l.bytes) l.left l.place) ≡ items (pair_of l.bytes) l.count l.at

abbrev pub decreases-pairs : goal.decreases-pairs
decreases-pairs l = l.left
