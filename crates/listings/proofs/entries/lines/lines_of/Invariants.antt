use Rattle.std.proofs.Common.{length, string_bytes}
use Rattle.dwarf_units.specs.Sequence.{units_of}
use Rattle.dwarf_units.proofs.lemmas.Limits.{UnitsTaken}
use Rattle.listings.proofs.entries_lemmas.Listings.{AreListing}
use Rattle.listings.proofs.entries.lines.lines_of.Given as goal

abbrev pub invariant-list : goal.invariant-list
invariant-list l =
    AreListing (string_bytes l.text) l.left (units_of l.sections.info.now l.sections.abbrev.now)
    × UnitsTaken l.sections.info.now l.sections.abbrev.now l.left l.budget

abbrev pub decreases-list : goal.decreases-list
decreases-list l = length l.left.items
