use Rattle.std.proofs.Common.{◌≡◌, drop}
use Rattle.explain.specs.RuleLines.{has_mark_in_value}
use Rattle.explain.proofs.rule_lines.has_marked_value.Given as goal

abbrev pub invariant-loop-index : goal.invariant-loop-index
invariant-loop-index l = has_mark_in_value (drop l.index l.line) ≡ has_mark_in_value l.line
