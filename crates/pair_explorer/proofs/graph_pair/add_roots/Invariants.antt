-- The roots before this one are added.
use Rattle.std.proofs.Common.{◌≡◌}
use Rattle.pair_explorer.specs.Adding.{entered, root_visit}
use Rattle.pair_explorer.specs.GraphPairs.{scope_of}
use Rattle.pair_explorer.specs.Spending.{IsCounted}
use Rattle.pair_explorer.proofs.graph_pair.add_roots.Given as goal

abbrev pub invariant-loop-k : goal.invariant-loop-k
invariant-loop-k l = record {
  visits : l.reached.visits ≡ entered (root_visit (scope_of l.ground)) l.k l.fn.reached.visits;
  counted : IsCounted (scope_of l.ground) l.reached.visits l.reached.pairs;
}
