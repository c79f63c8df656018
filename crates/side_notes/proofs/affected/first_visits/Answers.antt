-- A number is kept where its types are new.
use Rattle.std.proofs.lemmas.Bool.{OnFalse_at}
use Rattle.side_notes.proofs.AffectedLemmas.{IsTelling-more, IsTelling-none, IsTelling-still}
use Rattle.side_notes.proofs.affected.first_visits.Goals as goal
use Rattle.side_notes.proofs.affected.first_visits.Goals.{then-is_new+in_ok-push, else-is_new}

pub loop-found-init : goal.loop-found-init
loop-found-init c = IsTelling-none c.args.explored.now.visits c.as_slice-breaks.result.now c.new-pairs.result c.new-numbers.result c.new-pairs.ensures.empty c.new-numbers.ensures

pub loop-found-preserved : goal.loop-found-preserved
loop-found-preserved c =
    let vs = c.args.explored.now.visits in
    let breaks = c.as_slice-breaks.result.now in
    elim c.if-is_new.branch [
      | then-is_new+in_ok-push w ↦
          rw (w.numbers-is, w.in_ok-push.ensures.ok) (IsTelling-more vs breaks c.loop-found.found-index c.loop-found.pairs c.loop-found.numbers c.pair_at.result c.loop-found.invariant c.loop-found-test.true c.pair_at.ensures
          c.insert.new.self c.in_ok-is_new.is_new c.in_ok-is_new.ensures.added w.if-is_new.true c.in_ok-is_new.ensures.updates.0)
      | else-is_new w ↦
          rw w.numbers-is (IsTelling-still vs breaks c.loop-found.found-index c.loop-found.pairs c.loop-found.numbers c.pair_at.result c.loop-found.invariant c.loop-found-test.true c.pair_at.ensures
          c.insert.new.self c.in_ok-is_new.is_new c.in_ok-is_new.ensures.added w.if-is_new.false (OnFalse_at w.if-is_new.false c.in_ok-is_new.ensures.unchanged))
    ]
