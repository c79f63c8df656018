-- Row by row.
use Rattle.pair_explorer.specs.GraphPairs.{scope_of}
use Rattle.side_notes.proofs.AffectedLemmas.{AreRowNotes-more}
use Rattle.side_notes.proofs.affected.rows_of.Goals as goal

pub rows-preserved : goal.rows-preserved
rows-preserved c =
    let g = c.args.ground.now in
    AreRowNotes-more g.library.now (scope_of g.walk.now.ground.now) g.walk.now.visits.now c.args.numbers.now c.rows.notes c.push_row.new.notes c.rows.k 0 c.rows-test.true c.rows.invariant c.in_ok-push_row.ensures
