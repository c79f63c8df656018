use Rattle.dwarf_tree.specs.Keeping.{BeginBefore}
use Rattle.dwarf_tree.proofs.searches.place_near.Given as goal

abbrev pub invariant-near : goal.invariant-near
invariant-near l = BeginBefore l.entries l.offset l.place
