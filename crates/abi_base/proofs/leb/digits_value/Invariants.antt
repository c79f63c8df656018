use Rattle.std.proofs.Common.{◌≡◌, ◌≤◌, length, drop}
use Rattle.abi_base.specs.Numbers.{number_of}
use Rattle.abi_base.specs.Leb.{low_digits}
use Rattle.abi_base.proofs.leb.digits_value.Given as goal

abbrev pub invariant-loop-left : goal.invariant-loop-left
invariant-loop-left l = (l.left ≤ length l.digits) × (l.value ≡ number_of 128 (drop l.left (low_digits l.digits)))

abbrev pub decreases-loop-left : goal.decreases-loop-left
decreases-loop-left l = l.left
