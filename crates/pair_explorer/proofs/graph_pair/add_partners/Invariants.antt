-- What the parts before this one lead to is added.
use Rattle.std.proofs.Common.{◌≡◌}
use Rattle.pair_explorer.specs.Adding.{entered, next_visit}
use Rattle.pair_explorer.specs.GraphPairs.{scope_of}
use Rattle.pair_explorer.specs.Spending.{IsCounted}
use Rattle.pair_explorer.specs.Visits.{seen}
use Rattle.pair_explorer.proofs.graph_pair.add_partners.Given as goal

abbrev pub invariant-loop-i : goal.invariant-loop-i
invariant-loop-i l = record {
  visits : l.reached.visits ≡ entered (next_visit (scope_of l.ground) l.number (seen l.visit)) l.i l.fn.reached.visits;
  counted : IsCounted (scope_of l.ground) l.reached.visits l.reached.pairs;
}
