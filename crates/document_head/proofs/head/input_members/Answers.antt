use Rattle.std.proofs.Common.{map}
use Rattle.commands.specs.Commands.{items_of}
use Rattle.document_head.specs.Inputs.{shown_of}
use Rattle.document_head.proofs.InputLemmas.{more_at}
use Rattle.document_head.proofs.head.input_members.Goals as goal

pub loop-file-preserved : goal.loop-file-preserved
loop-file-preserved c =
    more_at (shown_of c.args.ending.now.wanted.digests c.args.ending.now.read.now.roles.items (map items_of c.args.ending.now.read.now.all.items)) c.args.ending.now.files.now c.loop-file.file-index _ _ _ c.in_ok-push_input.ensures.0 c.loop-file-test.true c.loop-file.invariant
    c.in_ok-push_input.ensures.1 c.in_ok-push_input.ensures.2
