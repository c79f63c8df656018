-- The nodes before the number stand for themselves.
use Rattle.std.proofs.Common.{◌≡◌}
use Rattle.std.specs.List.{range_with_len}
use Rattle.type_classes.proofs.classes.plain.Given as goal

abbrev pub invariant-loop-number : goal.invariant-loop-number
invariant-loop-number g l = l.reps.items ≡ range_with_len 0 l.number
