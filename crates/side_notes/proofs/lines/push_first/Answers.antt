-- One note after another.
use Rattle.side_notes.proofs.LineLemmas.{count_more, lines_more}
use Rattle.side_notes.proofs.lines.push_first.Goals as goal

pub loop-note-preserved : goal.loop-note-preserved
loop-note-preserved c = record {
  text = lines_more c.args.kind c.args.notes.now c.loop-note.note-index c.note-item.result c.args.text.now.items c.loop-note.text.items c.push_if.new.text.items c.loop-note.so_far c.loop-note-test.true c.note-item.is
      c.loop-note.invariant.text c.loop-note.invariant.count c.in_ok-push_if.ensures.ok;
  count = count_more c.args.kind c.args.notes.now c.loop-note.note-index c.note-item.result c.loop-note.so_far c.counted-so_far.result c.loop-note-test.true c.note-item.is c.loop-note.invariant.count c.counted-so_far.ensures;
}
