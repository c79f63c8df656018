use Rattle.std.proofs.Common.{◌+◌, ◌-◌, ◌*◌, ◌∙◌, arith}
use Rattle.trial_libraries.specs.Units.{function}
use Rattle.trial_libraries.proofs.Ranges.{pieces_more}
use Rattle.trial_libraries.proofs.units.put_functions.Goals as goal

pub loop-number-preserved : goal.loop-number-preserved
loop-number-preserved c =
    c.in_ok-put_function.ensures
    ∙ pieces_more function c.args.body.now.items c.loop-number.body.items (100 * c.args.unit) (c.loop-number.number - 100 * c.args.unit) (c.loop-number.number + 1 - 100 * c.args.unit) c.loop-number.number c.loop-number.invariant (omega arith) (omega arith)
