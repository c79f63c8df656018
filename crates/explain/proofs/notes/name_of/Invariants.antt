use Rattle.std.proofs.Common.{map, take}
use Rattle.commands.specs.Commands.{plain_file}
use Rattle.explain.specs.Notes.{IsUnnamed}
use Rattle.explain.proofs.notes.name_of.Given as goal

abbrev pub invariant-loop-file : goal.invariant-loop-file
invariant-loop-file l = IsUnnamed (map plain_file (take l.file-index l.files)) l.which
