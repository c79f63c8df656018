use Rattle.std.proofs.Common.{◌≡◌, drop}
use Rattle.explain.specs.RuleLines.{has_mark_behind}
use Rattle.explain.proofs.rule_lines.is_marked.Given as goal

abbrev pub invariant-loop-index : goal.invariant-loop-index
invariant-loop-index l = has_mark_behind l.before (drop l.index l.bytes) ≡ has_mark_behind l.fn.first l.bytes
