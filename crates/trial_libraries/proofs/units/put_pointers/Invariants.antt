use Rattle.std.proofs.Common.{◌≡◌, ◌++◌}
use Rattle.std.specs.List.{flat_map, range_with_len}
use Rattle.trial_libraries.specs.Units.{pointer}
use Rattle.trial_libraries.proofs.units.put_pointers.Given as goal

abbrev pub invariant-loop-number : goal.invariant-loop-number
invariant-loop-number l = l.body.items ≡ l.initial.body.items ++ flat_map (pointer l.ring) (range_with_len 0 l.number)
