use Rattle.std.proofs.Common.{◌≡◌, drop}
use Rattle.explain.specs.RuleLines.{begins_property}
use Rattle.explain.proofs.rule_lines.is_property.Given as goal

abbrev pub invariant-loop-index : goal.invariant-loop-index
invariant-loop-index l = begins_property (drop l.index l.line) ≡ begins_property l.line
