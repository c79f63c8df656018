-- No member so far holds a bit.
use Rattle.std.proofs.Common.{◌≡◌, drop}
use Rattle.type_print.specs.Sweeps.{next_bit}
use Rattle.type_print.proofs.fitting.next_held.Given as goal

abbrev pub invariant-loop-k : goal.invariant-loop-k
invariant-loop-k l = next_bit (drop l.from l.members) ≡ next_bit (drop l.k l.members)
