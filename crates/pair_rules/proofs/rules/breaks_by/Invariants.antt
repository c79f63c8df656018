-- The list has what breaks the rules before this one.
use Rattle.std.proofs.Common.{◌≡◌, take}
use Rattle.std.specs.List.{flat_map}
use Rattle.pair_rules.specs.TypeRules.{broken, rules_asked}
use Rattle.pair_rules.proofs.rules.breaks_by.Given as goal

abbrev pub invariant-rules : goal.invariant-rules
invariant-rules l = l.list ≡ flat_map (broken l.old l.new) (take l.rule-index (rules_asked l.old l.new))
