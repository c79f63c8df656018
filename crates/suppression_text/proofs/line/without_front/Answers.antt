use Rattle.std.proofs.Common.{◌∙◌, sym, arith}
use Rattle.suppression_text.proofs.LineLemmas.{front_over, front_here, front_past}
use Rattle.suppression_text.proofs.line.without_front.Goals as goal

pub returns-then-not-is_blank : goal.returns-then-not-is_blank
returns-then-not-is_blank c = c.from.ensures ∙ front_here c.args.text.now c.blanks.at c.blanks-test.true (sym c.is_blank.ensures ∙ c.if-not-is_blank.true) ∙ c.blanks.invariant.1

pub blanks-preserved : goal.blanks-preserved
blanks-preserved c = (omega arith, front_over c.args.text.now c.blanks.at c.blanks-test.true (sym c.is_blank.ensures ∙ c.if-not-is_blank.false) ∙ c.blanks.invariant.1)

pub returns : goal.returns
returns c = c.from-2.ensures ∙ front_past c.args.text.now c.blanks.at c.blanks-test.false ∙ c.blanks.invariant.1
