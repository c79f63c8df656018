-- Export by export.
use Rattle.side_notes.proofs.OldExportLemmas.{notes_all, notes_more, notes_none}
use Rattle.side_notes.proofs.old_exports.push_old_exports.Goals as goal

pub exports-init : goal.exports-init
exports-init c = notes_none c.args.marks.now.exports c.args.old.now.exports c.args.new.now.exports c.args.notes.now

pub exports-preserved : goal.exports-preserved
exports-preserved c = notes_more c.args.marks.now.exports c.args.old.now.exports c.args.new.now.exports c.args.notes.now c.exports.notes c.push_at.new.notes c.exports.k c.exports.invariant c.in_ok-push_at.ensures

pub returns : goal.returns
returns c = notes_all c.args.marks.now.exports c.args.old.now.exports c.args.new.now.exports c.args.notes.now c.exports.notes c.exports-count.result.now c.exports.k c.exports.invariant c.exports-count.ensures c.exports.auto.k-end c.exports-test.false
