-- What the visits are so far, how many steps were taken, and what of the budgets.
use Rattle.std.proofs.Common.{◌≡◌, ◌+◌, ◌-◌, count_by, take}
use Rattle.pair_explorer.specs.Explorations.{is_compared, most_triples}
use Rattle.pair_explorer.specs.GraphPairs.{scope_of}
use Rattle.pair_explorer.proofs.Loop.{IsGoing}
use Rattle.pair_explorer.proofs.Spent.{IsSpent}
use Rattle.pair_explorer.proofs.exploring.explore.Given as goal

abbrev pub invariant-list : goal.invariant-list
invariant-list g l = record {
  going : IsGoing (scope_of l.ground) l.explored.reached.visits l.number l.explored.breaks;
  spent : IsSpent (scope_of l.ground) l.explored.reached.visits l.number l.explored.reached.pairs l.explored.work.parts l.explored.work.broken;
  cost : l.steps ≡ l.fn.steps + count_by (is_compared (scope_of l.ground).task) (take l.number l.explored.reached.visits);
}

abbrev pub decreases-list : goal.decreases-list
decreases-list g l = most_triples (scope_of l.ground) - l.number
