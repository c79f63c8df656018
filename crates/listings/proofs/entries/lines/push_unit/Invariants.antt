use Rattle.std.proofs.Common.{length, string_bytes}
use Rattle.dwarf_units.specs.Plain.{plain_unit}
use Rattle.dwarf_units.specs.Units.{entries_of}
use Rattle.dwarf_units.proofs.lemmas.Limits.{AttributesTaken}
use Rattle.listings.proofs.entries_lemmas.Listings.{IsListing}
use Rattle.listings.proofs.entries.lines.push_unit.Given as goal

abbrev pub invariant-list : goal.invariant-list
invariant-list l =
    IsListing (string_bytes l.fn.text) (string_bytes l.text) l.left (entries_of (plain_unit l.unit))
    × AttributesTaken (plain_unit l.unit) l.left l.budget

abbrev pub decreases-list : goal.decreases-list
decreases-list l = length l.left.items
