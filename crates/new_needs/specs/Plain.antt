-- What the code keeps, without the addresses of names in memory.
use Rattle.std.specs.Prelude.{List, map}
use Rattle.new_needs.specs.declared.kept.Needed.{Needed}
use Rattle.new_needs.specs.declared.kept.FileNeeds.{FileNeeds}
use Rattle.new_needs.specs.Needed.{PlainNeeded, PlainNeeds}

abbrev pub plain_needed : Needed → PlainNeeded
plain_needed n = record { name = n.name.now; of = n.of.now }

abbrev pub plain_all : List Needed → List PlainNeeded
plain_all needed = map plain_needed needed

abbrev pub plain_needs : FileNeeds → PlainNeeds
plain_needs n = record { files = plain_all n.files.items; versions = plain_all n.versions.items; symbols = plain_all n.symbols.items }
