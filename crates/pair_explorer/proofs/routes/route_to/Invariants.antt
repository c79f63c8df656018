-- The path to the visit goes on, by the parts so far, to the visit that was asked for.
use Rattle.std.proofs.Common.{◌<◌, length}
use Rattle.pair_explorer.proofs.Walked.{GoesOn}
use Rattle.pair_explorer.proofs.routes.route_to.Given as goal

abbrev pub invariant-walk : goal.invariant-walk
invariant-walk l = record {
  inside : l.at < length l.visits;
  goes_on : GoesOn l.visits l.number l.at l.parts.items;
}

abbrev pub decreases-walk : goal.decreases-walk
decreases-walk l = l.at
