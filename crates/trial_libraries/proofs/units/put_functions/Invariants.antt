use Rattle.std.proofs.Common.{◌≡◌, ◌++◌, ◌-◌}
use Rattle.std.specs.List.{flat_map, range_with_len}
use Rattle.trial_libraries.specs.Units.{function}
use Rattle.trial_libraries.proofs.units.put_functions.Given as goal

abbrev pub invariant-loop-number : goal.invariant-loop-number
invariant-loop-number l = l.body.items ≡ l.initial.body.items ++ flat_map function (range_with_len l.first (l.number - l.first))
