use Rattle.std.proofs.Common.{◌∙◌, sym, arith}
use Rattle.explain.proofs.RuleLineLemmas.{property_here, property_over, property_past}
use Rattle.explain.proofs.rule_lines.is_property.Goals as goal

pub returns-then-not-is_blank : goal.returns-then-not-is_blank
returns-then-not-is_blank c =
    c.is_plain.ensures ∙ property_here c.args.line.now c.loop-index.index (omega arith) (sym c.is_blank.ensures ∙ c.if-not-is_blank.true) ∙ c.loop-index.invariant

pub loop-index-preserved : goal.loop-index-preserved
loop-index-preserved c =
    property_over c.args.line.now c.loop-index.index (omega arith) (sym c.is_blank.ensures ∙ c.if-not-is_blank.false) ∙ c.loop-index.invariant

pub returns : goal.returns
returns c = property_past c.args.line.now c.loop-index.index (omega arith) ∙ c.loop-index.invariant
