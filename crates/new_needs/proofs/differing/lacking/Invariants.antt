use Rattle.std.proofs.Common.{◌≡◌, ◌++◌, take}
use Rattle.new_needs.specs.Lacking.{lacking}
use Rattle.new_needs.specs.Plain.{plain_all}
use Rattle.new_needs.specs.Seen.{AreSeen}
use Rattle.new_needs.proofs.differing.lacking.Given as goal

abbrev pub invariant-loop-needed : goal.invariant-loop-needed
invariant-loop-needed l = record {
  seen : AreSeen (plain_all l.fn.old ++ plain_all (take l.needed-index l.new)) l.seen;
  kept : plain_all l.kept.items ≡ lacking (plain_all l.fn.old) (plain_all (take l.needed-index l.new));
}
