use Rattle.abi_base.proofs.lemmas.Leb.{Summed}
use Rattle.abi_base.proofs.leb.digits_sum.Given as goal

abbrev pub invariant-loop-left : goal.invariant-loop-left
invariant-loop-left l = Summed l.digits l.left l.sum l.scale

abbrev pub decreases-loop-left : goal.decreases-loop-left
decreases-loop-left l = l.left
