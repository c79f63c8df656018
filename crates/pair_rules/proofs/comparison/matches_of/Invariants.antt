-- The matches of the parts before this one.
use Rattle.std.proofs.Common.{◌≡◌, map}
use Rattle.std.specs.List.{range_with_len}
use Rattle.pair_rules.specs.Matching.{match_of}
use Rattle.pair_rules.proofs.comparison.matches_of.Given as goal

abbrev pub invariant-walk : goal.invariant-walk
invariant-walk l = l.list ≡ map (match_of l.old l.new) (range_with_len 0 l.i)
