-- The first difference is at this place or a later one.
use Rattle.std.proofs.Common.{◌≡◌, length}
use Rattle.std.specs.Prelude.{max}
use Rattle.abi_base.proofs.lemmas.Places.{places}
use Rattle.type_notes.specs.DefinedElsewhere.{first_part_change, part_changes_from}
use Rattle.type_notes.proofs.elsewhere.first_part_change.Given as goal

abbrev pub invariant-loop-place : goal.invariant-loop-place
invariant-loop-place l =
    part_changes_from l.pair.old_dwarf.now l.pair.new_dwarf.now l.old l.new (places l.place (max (length l.old) (length l.new)))
    ≡ first_part_change l.pair.old_dwarf.now l.pair.new_dwarf.now l.old l.new
