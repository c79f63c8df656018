use Rattle.std.proofs.Common.{arith, refl}
use Rattle.abi_base.proofs.lemmas.Leb.{no_digits, next_digit, too_large}
use Rattle.abi_base.proofs.leb.digits_value.Goals as goal

pub loop-left-init : goal.loop-left-init
loop-left-init c = (omega arith, no_digits c.args.digits.now)

pub returns-then-value : goal.returns-then-value
returns-then-value c =
    rw (too_large c.args.digits.now c.loop-left.left c.loop-left.value (omega arith) c.loop-left.invariant.1 (omega arith)) refl

pub loop-left-preserved : goal.loop-left-preserved
loop-left-preserved c =
    (omega arith, next_digit c.args.digits.now c.loop-left.left c.loop-left.value c.from.result (omega arith) c.loop-left.invariant.0 c.loop-left.invariant.1 c.from.ensures)
