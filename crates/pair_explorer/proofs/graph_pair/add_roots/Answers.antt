-- One more root is added.
use Rattle.std.proofs.Common.{sym}
use Rattle.std.proofs.lemmas.Result.{err_from_is_err_and}
use Rattle.abi_base.proofs.lemmas.Outcomes.{on_limit_weaker}
use Rattle.pair_explorer.specs.Adding.{root_visit}
use Rattle.pair_explorer.specs.GraphPairs.{scope_of}
use Rattle.pair_explorer.proofs.Entered.{entered-zero, entered_some}
use Rattle.pair_explorer.proofs.Spent.{counted_more, visits_past}
use Rattle.pair_explorer.proofs.graph_pair.add_roots.Goals as goal

pub loop-k-init : goal.loop-k-init
loop-k-init c = record { visits = sym (entered-zero (root_visit (scope_of c.args.ground.now)) c.args.reached.now.visits); counted = c.requires.counted }

pub loop-k-preserved : goal.loop-k-preserved
loop-k-preserved c = record {
  visits = entered_some (root_visit (scope_of c.args.ground.now)) c.loop-k.k c.args.reached.now.visits c.loop-k.reached.visits c.add.new.self.visits c.root_visit-visit.result (sym c.root_visit-visit.ensures.visit) c.loop-k.invariant.visits c.in_ok-add.ensures.visits;
  counted = counted_more (scope_of c.args.ground.now) c.loop-k.reached.visits c.add.new.self.visits c.root_visit-visit.result c.loop-k.reached.pairs c.add.new.self.pairs c.loop-k.invariant.counted c.in_ok-add.ensures.visits c.in_ok-add.ensures.pairs;
}

pub returns-in_err-add-clause-past : goal.returns-in_err-add-clause-past
returns-in_err-add-clause-past c =
    let p = err_from_is_err_and c.from_residual.result c.from_residual.ensures.1 in
    rw (p.1, p.2) (on_limit_weaker c.in_err-add.field-0.0 _ _ (λ l h.
    visits_past (scope_of c.args.ground.now) (root_visit (scope_of c.args.ground.now)) c.loop-k.k _ c.args.reached.now.visits c.loop-k.reached.visits c.root_visit-visit.result c.loop-k.reached.pairs l c.loop-k-test.true c.loop-k.invariant.visits (sym c.root_visit-visit.ensures.visit) c.loop-k.invariant.counted c.root_visit-visit.ensures.inside.0 c.root_visit-visit.ensures.inside.1 h) c.in_err-add.ensures.past)
