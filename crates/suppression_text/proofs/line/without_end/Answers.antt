use Rattle.std.proofs.Common.{◌≡◌, ◌∙◌, sym, ap, arith, ℕ, take, []}
use Rattle.suppression_text.specs.Lines.{without_end}
use Rattle.suppression_text.proofs.LineLemmas.{end_over, end_here, end_nil}
use Rattle.suppression_text.proofs.line.without_end.Goals as goal

pub returns-then-not-is_blank : goal.returns-then-not-is_blank
returns-then-not-is_blank c = c.before-then-not-is_blank.ensures ∙ end_here c.args.text.now c.blanks.end c.blanks-test.true c.blanks.invariant.0 (sym c.is_blank.ensures ∙ c.if-not-is_blank.true) ∙ c.blanks.invariant.1

pub blanks-preserved : goal.blanks-preserved
blanks-preserved c = (omega arith, end_over c.args.text.now c.blanks.end c.blanks-test.true c.blanks.invariant.0 (sym c.is_blank.ensures ∙ c.if-not-is_blank.false) ∙ c.blanks.invariant.1)

pub returns : goal.returns
returns c =
    let none : c.blanks.end ≡ 0 = omega arith in
    let e : take c.blanks.end c.args.text.now ≡ [] = ap (λ (n : ℕ). take n c.args.text.now) none in
    c.before-2.ensures ∙ e ∙ sym end_nil ∙ ap without_end (sym e) ∙ c.blanks.invariant.1
