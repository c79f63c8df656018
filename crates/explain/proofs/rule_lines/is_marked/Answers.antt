use Rattle.std.proofs.Common.{◌∙◌, sym, arith}
use Rattle.explain.proofs.RuleLineLemmas.{mark_here, mark_over, mark_past}
use Rattle.explain.proofs.rule_lines.is_marked.Goals as goal

pub returns-then-begins_comment : goal.returns-then-begins_comment
returns-then-begins_comment c =
    mark_here c.loop-index.before c.args.bytes.now c.loop-index.index (omega arith) (sym c.begins_comment.ensures ∙ c.if-begins_comment.true) ∙ c.loop-index.invariant

pub loop-index-preserved : goal.loop-index-preserved
loop-index-preserved c =
    mark_over c.loop-index.before c.args.bytes.now c.loop-index.index (omega arith) (sym c.begins_comment.ensures ∙ c.if-begins_comment.false) ∙ c.loop-index.invariant

pub returns : goal.returns
returns c = mark_past c.loop-index.before c.args.bytes.now c.loop-index.index (omega arith) ∙ c.loop-index.invariant
