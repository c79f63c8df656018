use Rattle.std.proofs.Common.{subst}
use Rattle.std.specs.List.Sorted.{IsNonDecreasing}
use Rattle.std.proofs.lemmas.Map.Keys.{non_decreasing_from_sorted, sorted_from_strictly_increasing}
use Rattle.type_reach.proofs.reached_entries.ReachedEntries.in_order.Goals as goal

pub returns : goal.returns
returns c = subst IsNonDecreasing c.self.view_is (non_decreasing_from_sorted c.self.inside.entries.items (sorted_from_strictly_increasing c.self.inside.entries.items c.self.invariant))
