use Rattle.std.proofs.Common.{◌≡◌, ◌∙◌, true, false, get_or, ap, arith, rules}
use Rattle.std.specs.Prelude.{◌==◌}
use Rattle.explain.specs.RuleLines.{has_mark_behind}
use Rattle.explain.proofs.RuleLineLemmas.{value_here, value_over, value_past}
use Rattle.explain.proofs.rule_lines.has_marked_value.Goals as goal

pub returns-then-byte-eq61 : goal.returns-then-byte-eq61
returns-then-byte-eq61 c =
    let here : (get_or c.args.line.now c.loop-index.index 0 == 61) ≡ true = search rules in
    c.is_marked.ensures ∙ ap (has_mark_behind (get_or c.args.line.now c.loop-index.index 0)) c.from.ensures
    ∙ value_here c.args.line.now c.loop-index.index (omega arith) here ∙ c.loop-index.invariant

pub loop-index-preserved : goal.loop-index-preserved
loop-index-preserved c =
    let other : (get_or c.args.line.now c.loop-index.index 0 == 61) ≡ false = search rules in
    value_over c.args.line.now c.loop-index.index (omega arith) other ∙ c.loop-index.invariant

pub returns : goal.returns
returns c = value_past c.args.line.now c.loop-index.index (omega arith) ∙ c.loop-index.invariant
