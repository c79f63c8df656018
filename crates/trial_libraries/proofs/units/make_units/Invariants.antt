use Rattle.std.proofs.Common.{◌≡◌}
use Rattle.std.specs.List.{flat_map, range_with_len}
use Rattle.trial_libraries.specs.Units.{unit}
use Rattle.trial_libraries.proofs.units.make_units.Given as goal

abbrev pub invariant-loop-unit : goal.invariant-loop-unit
invariant-loop-unit l = l.info.items ≡ flat_map (unit l.n l.ring) (range_with_len 0 l.unit)
