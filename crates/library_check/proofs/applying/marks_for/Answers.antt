use Rattle.std.proofs.Common.{◌∙◌, Bool, List, ap, sym, subst, length}
use Rattle.app_check.specs.Used.{narrowed_marks}
use Rattle.pair_compare.specs.Marking.{AreMarksOf}
use Rattle.library_check.proofs.AppLemmas.{narrowed_are, used_length}
use Rattle.library_check.proofs.applying.marks_for.Goals as goal

pub narrow-requires : goal.narrow-requires
narrow-requires c = c.in_ok-marks.ensures.even.exports ∙ sym (ap length c.in_ok-used.ensures.used ∙ used_length _ _ _) ∙ ap length (sym c.deref.ensures.value)

pub returns-clause-even : goal.returns-clause-even
returns-clause-even c =
    let narrowed = narrowed_are c.args.old.now c.in_ok-marks.marks c.in_ok-used.used.items c.in_ok-marks.ensures.even (ap length c.in_ok-used.ensures.used ∙ used_length _ _ _) in
    subst (AreMarksOf c.args.old.now) (sym (c.in_ok-narrowed.ensures.read ∙ ap (λ (used : List Bool). narrowed_marks c.in_ok-marks.marks used) c.deref.ensures.value)) narrowed
