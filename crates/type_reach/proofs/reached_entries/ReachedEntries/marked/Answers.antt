use Rattle.std.proofs.Common.{◌∙◌, ap, length, sym, subst, arith}
use Rattle.std.specs.List.Sorted.{IsStrictlyIncreasing}
use Rattle.type_reach.proofs.MetLemmas.{places-all, places-few, places-marked, places-passed, places-rise}
use Rattle.type_reach.proofs.reached_entries.ReachedEntries.marked.Goals as goal
use Rattle.type_reach.proofs.reached_entries.ReachedEntries.marked.Goals.{then-marks-e+in_ok-push-2, else-marks-e}

pub overflow_cast-len : goal.overflow_cast-len
overflow_cast-len c = omega (arith, c.requires, c.marks-test.true, c.len.ensures, ap length c.marks.invariant, places-few c.args.marks.now c.marks.e)

pub marks-preserved : goal.marks-preserved
marks-preserved c =
    let marks = c.args.marks.now in
    elim c.if-marks-e.branch [
      | then-marks-e+in_ok-push-2 w ↦ rw (w.entries-is, w.in_ok-push-2.ensures.items, w.new.ensures, c.marks.invariant) (sym (places-marked marks c.marks.e w.if-marks-e.true))
      | else-marks-e w ↦ rw (w.entries-is, c.marks.invariant) (sym (places-passed marks c.marks.e w.if-marks-e.false))
    ]

pub invariant_of-result : goal.invariant_of-result
invariant_of-result c =
    let marks = c.args.marks.now in
    subst IsStrictlyIncreasing (sym (c.marks.invariant ∙ places-all marks c.marks.e (omega (arith, c.marks-test.false, c.marks.auto.e-end)))) (places-rise marks)

pub returns-clause-found : goal.returns-clause-found
returns-clause-found c = c.marks.invariant ∙ places-all c.args.marks.now c.marks.e (omega (arith, c.marks-test.false, c.marks.auto.e-end))
