use Rattle.std.proofs.Common.{◌∙◌, true, false, sym}
use Rattle.suppression_text.specs.Classes.{begins_flags}
use Rattle.abi_base.proofs.lemmas.Bools.{or_false, or_true}
use Rattle.suppression_text.proofs.ClassLemmas.{any_is}
use Rattle.suppression_text.proofs.classes.has_flags.Goals as goal
use Rattle.suppression_text.proofs.classes.has_flags.Goals.{then-are_flags, else-are_flags}

pub loop-at-preserved : goal.loop-at-preserved
loop-at-preserved c =
    elim c.if-are_flags.branch [
      | then-are_flags w ↦
          any_is (begins_flags c.args.line.now) c.loop-at.at c.loop-at.flagged true c.if-are_flags.flagged c.loop-at.invariant (sym w.if-are_flags.true ∙ c.are_flags.ensures)
          (w.flagged-is ∙ sym (or_true c.loop-at.flagged))
      | else-are_flags w ↦
          any_is (begins_flags c.args.line.now) c.loop-at.at c.loop-at.flagged false c.if-are_flags.flagged c.loop-at.invariant (sym w.if-are_flags.false ∙ c.are_flags.ensures)
          (w.flagged-is ∙ sym (or_false c.loop-at.flagged))
    ]
