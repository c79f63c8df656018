use Rattle.std.proofs.Common.{length}
use Rattle.dwarf_tree.proofs.ReadFrom.{IsGrowing}
use Rattle.dwarf_units.proofs.lemmas.Limits.{UnitsTaken}
use Rattle.dwarf_tree.proofs.reading.read_all.Given as goal

abbrev pub invariant-list : goal.invariant-list
invariant-list l =
    IsGrowing l.sections.info.now l.sections.abbrev.now l.growing l.left
    × UnitsTaken l.sections.info.now l.sections.abbrev.now l.left l.budget

abbrev pub decreases-list : goal.decreases-list
decreases-list l = length l.left.items
