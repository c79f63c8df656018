use Rattle.std.proofs.Common.{◌∙◌, true, false, sym, arith}
use Rattle.suppression_text.specs.Classes.{is_class}
use Rattle.suppression_text.proofs.ClassLemmas.{count_is}
use Rattle.suppression_text.proofs.classes.class_count.Goals as goal
use Rattle.suppression_text.proofs.classes.class_count.Goals.{then-is_class, else-is_class}

pub loop-at-preserved : goal.loop-at-preserved
loop-at-preserved c =
    elim c.if-is_class.branch [
      | then-is_class w ↦ (
        count_is (is_class c.args.text.now) c.loop-at.at c.loop-at.count c.if-is_class.count true (sym w.if-is_class.true ∙ c.is_class.ensures) c.loop-at.invariant.0 w.count-is,
        omega (arith, w.count-is, c.loop-at.invariant.1),
      )
      | else-is_class w ↦ (
        count_is (is_class c.args.text.now) c.loop-at.at c.loop-at.count c.if-is_class.count false (sym w.if-is_class.false ∙ c.is_class.ensures) c.loop-at.invariant.0 (omega (arith, w.count-is)),
        omega (arith, w.count-is, c.loop-at.invariant.1),
      )
    ]
