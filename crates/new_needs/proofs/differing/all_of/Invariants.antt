use Rattle.std.proofs.Common.{take}
use Rattle.new_needs.specs.Plain.{plain_all}
use Rattle.new_needs.specs.Seen.{AreSeen}
use Rattle.new_needs.proofs.differing.all_of.Given as goal

abbrev pub invariant-loop-needed : goal.invariant-loop-needed
invariant-loop-needed l = AreSeen (plain_all (take l.needed-index l.list)) l.seen
