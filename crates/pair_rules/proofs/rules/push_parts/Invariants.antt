-- The list has gained the parts before this one that break the rule.
use Rattle.std.proofs.Common.{◌≡◌, ◌++◌, map}
use Rattle.std.specs.List.{range_with_len, filter}
use Rattle.pair_rules.specs.TypeRules.{breaks_part, broken_at}
use Rattle.pair_rules.proofs.rules.push_parts.Given as goal

abbrev pub invariant-walk : goal.invariant-walk
invariant-walk l = l.list ≡ l.fn.list ++ map (broken_at l.rule) (filter (breaks_part l.rule l.old l.new) (range_with_len 0 l.part))
