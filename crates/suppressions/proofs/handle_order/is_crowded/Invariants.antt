use Rattle.std.proofs.Common.{◌≤◌}
use Rattle.suppressions.proofs.handle_order.is_crowded.Given as goal

abbrev pub invariant-loop-at : goal.invariant-loop-at
invariant-loop-at l = l.most ≤ l.at
