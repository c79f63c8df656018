use Rattle.std.proofs.Common.{◌≡◌}
use Rattle.type_reach.proofs.MetLemmas.{places_before}
use Rattle.type_reach.proofs.reached_entries.ReachedEntries.marked.Given as goal

abbrev pub invariant-marks : goal.invariant-marks
invariant-marks l = l.entries.items ≡ places_before l.marks l.e
