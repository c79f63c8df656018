use Rattle.std.proofs.Common.{◌≡◌, ◌==◌, ◌-◌, false, arith, inl, inr}
use Rattle.std.proofs.Math.ListN.{get_or}
use Rattle.std.proofs.lemmas.Bool.{cases_Bool, eqb-true}
use Rattle.dwarf_text.proofs.EndLemmas.{none_past, none_before, ends_behind}
use Rattle.dwarf_text.proofs.ends.texts_end.Goals as goal

pub back-init : goal.back-init
back-init c = (none_past c.args.section.now, omega arith)

pub returns-then-section-end-eq0-clause-end : goal.returns-then-section-end-eq0-clause-end
returns-then-section-end-eq0-clause-end c =
    ends_behind c.args.section.now c.back.end c.back-test.true c.back.invariant.1 c.back.invariant.0 c.if-section-end-eq0.true

pub back-preserved : goal.back-preserved
back-preserved c =
    let last = get_or c.args.section.now (c.back.end - 1) 0 in
    let other : (last == 0) ≡ false = elim (cases_Bool (last == 0)) [
      | inl is ↦ absurd (c.if-section-end-eq0.false (eqb-true last 0 is))
      | inr is ↦ is
    ] in
    (none_before c.args.section.now c.back.end c.back-test.true c.back.invariant.1 c.back.invariant.0 other, omega (arith, c.back.invariant.1))
