use Rattle.std.proofs.Common.{◌≡◌, map}
use Rattle.std.specs.List.{filter}
use Rattle.explain.specs.RuleLines.{has_comment_in_value}
use Rattle.explain.proofs.rule_lines.commented_values.Given as goal

abbrev pub invariant-loop-line : goal.invariant-loop-line
invariant-loop-line l = map (λ line. line.now) l.found.items ≡ filter has_comment_in_value (map (λ line. line.now) l.yielded)
