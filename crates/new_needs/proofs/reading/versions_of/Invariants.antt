use Rattle.std.proofs.Common.{◌≡◌, map, take}
use Rattle.new_needs.specs.Versions.{plain_versions}
use Rattle.new_needs.specs.Needs.{version_needed}
use Rattle.new_needs.specs.Plain.{plain_all}
use Rattle.new_needs.proofs.reading.versions_of.Given as goal

abbrev pub invariant-loop-need : goal.invariant-loop-need
invariant-loop-need l = plain_all l.needed.items ≡ map version_needed (plain_versions (take l.need-index l.needs))
