-- One note more.
use Rattle.side_notes.specs.Needs.{need_note}
use Rattle.side_notes.proofs.NeedLemmas.{notes_more}
use Rattle.side_notes.proofs.needs.push_each.Goals as goal

pub loop-needed-preserved : goal.loop-needed-preserved
loop-needed-preserved c =
    notes_more (need_note c.args.kind c.args.sign.now) c.args.list.now c.loop-needed.needed-index _ c.args.notes.now c.loop-needed.notes c.push_one.new.notes c.loop-needed-test.true
    c.loop-needed.invariant c.in_ok-push_one.ensures
