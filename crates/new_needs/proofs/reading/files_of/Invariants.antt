use Rattle.std.proofs.Common.{◌≡◌, map, take}
use Rattle.new_needs.specs.NeededFiles.{plain_names}
use Rattle.new_needs.specs.Needs.{file_needed}
use Rattle.new_needs.specs.Plain.{plain_all}
use Rattle.new_needs.proofs.reading.files_of.Given as goal

abbrev pub invariant-loop-name : goal.invariant-loop-name
invariant-loop-name l = plain_all l.needed.items ≡ map file_needed (plain_names (take l.name-index l.names))
