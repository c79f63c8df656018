-- Export by export.
use Rattle.std.proofs.Common.{sym, ◌∙◌}
use Rattle.side_notes.proofs.VersionLemmas.{versions_more, versions_none}
use Rattle.side_notes.proofs.versions.versions_of.Goals as goal

pub loop-export-init : goal.loop-export-init
loop-export-init c = c.new-kept.ensures ∙ sym versions_none

pub loop-export-preserved : goal.loop-export-preserved
loop-export-preserved c = versions_more c.args.exports.now c.loop-export.export-index _ c.loop-export.kept c.put.new.kept c.loop-export-test.true c.loop-export.invariant c.in_ok-put.ensures
