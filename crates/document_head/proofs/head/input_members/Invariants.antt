use Rattle.std.proofs.Common.{map, take}
use Rattle.commands.specs.Commands.{items_of, plain_file}
use Rattle.serde_json.specs.View.{view}
use Rattle.document_head.specs.Inputs.{AreInputs, shown_of}
use Rattle.document_head.proofs.head.input_members.Given as goal

abbrev pub invariant-loop-file : goal.invariant-loop-file
invariant-loop-file l = AreInputs (shown_of l.ending.wanted.digests l.ending.read.now.roles.items (map items_of l.ending.read.now.all.items)) (map plain_file (take l.file-index l.ending.files.now)) (map view l.members.inputs.items)
