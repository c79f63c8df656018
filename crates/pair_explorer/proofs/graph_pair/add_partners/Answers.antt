-- What one more part leads to is added, or nothing.
use Rattle.std.proofs.Common.{sym, length, arith}
use Rattle.std.proofs.lemmas.Result.{err_from_is_err_and}
use Rattle.abi_base.proofs.lemmas.Outcomes.{on_limit_weaker}
use Rattle.abi_types.specs.Graphs.{view_at}
use Rattle.pair_explorer.specs.Adding.{next_visit}
use Rattle.pair_explorer.specs.GraphPairs.{scope_of}
use Rattle.pair_explorer.specs.Visits.{seen}
use Rattle.pair_explorer.proofs.Entered.{entered-zero, entered_some, entered_none}
use Rattle.pair_explorer.proofs.Spent.{counted_more, visits_past}
use Rattle.pair_explorer.proofs.graph_pair.add_partners.Goals as goal
use Rattle.pair_explorer.proofs.graph_pair.add_partners.Goals.{in-Some+in_ok-add, in_default}

pub loop-i-init : goal.loop-i-init
loop-i-init c = record { visits = sym (entered-zero (next_visit (scope_of c.args.ground.now) c.args.number (seen c.args.visit.now)) c.args.reached.now.visits); counted = c.requires.counted }

pub loop-i-preserved : goal.loop-i-preserved
loop-i-preserved c =
    let s = scope_of c.args.ground.now in
    let f = next_visit s c.args.number (seen c.args.visit.now) in
    elim c.match-next_visit.branch [
      | in-Some+in_ok-add w ↦ rw w.reached-is (record {
        visits = entered_some f c.loop-i.i c.args.reached.now.visits c.loop-i.reached.visits w.add.new.self.visits w.in-Some.next (sym w.in-Some.ensures.visit) c.loop-i.invariant.visits w.in_ok-add.ensures.visits;
        counted = counted_more s c.loop-i.reached.visits w.add.new.self.visits w.in-Some.next c.loop-i.reached.pairs w.add.new.self.pairs c.loop-i.invariant.counted w.in_ok-add.ensures.visits w.in_ok-add.ensures.pairs;
      })
      | in_default w ↦ rw w.reached-is (record { visits = entered_none f c.loop-i.i c.args.reached.now.visits c.loop-i.reached.visits (sym w.in_default.ensures.visit) c.loop-i.invariant.visits; counted = c.loop-i.invariant.counted })
    ]

pub returns-in_err-add-clause-past : goal.returns-in_err-add-clause-past
returns-in_err-add-clause-past c =
    let s = scope_of c.args.ground.now in
    let f = next_visit s c.args.number (seen c.args.visit.now) in
    let p = err_from_is_err_and c.from_residual.result c.from_residual.ensures.1 in
    let n = length (view_at c.args.ground.now.old.now c.args.visit.now.old).parts in
    let inside = c.in-Some.ensures.inside in
    rw (p.1, p.2) (on_limit_weaker c.in_err-add.field-0.0 _ _ (λ l h. visits_past s f c.loop-i.i n c.args.reached.now.visits c.loop-i.reached.visits c.in-Some.next c.loop-i.reached.pairs l (omega (arith, c.parts_len-i-end.ensures, c.loop-i-test.true)) c.loop-i.invariant.visits (sym c.in-Some.ensures.visit) c.loop-i.invariant.counted inside.0 inside.1 h) c.in_err-add.ensures.past)
