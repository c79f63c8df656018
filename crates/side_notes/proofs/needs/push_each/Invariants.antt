-- The notes on what is needed so far.
use Rattle.std.proofs.Common.{◌≡◌, ◌++◌, map, take}
use Rattle.new_needs.specs.Plain.{plain_all}
use Rattle.side_notes.specs.Needs.{need_note}
use Rattle.side_notes.proofs.needs.push_each.Given as goal

abbrev pub invariant-loop-needed : goal.invariant-loop-needed
invariant-loop-needed l = l.notes ≡ l.fn.notes ++ map (need_note l.kind l.sign) (plain_all (take l.needed-index l.list))
