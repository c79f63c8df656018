-- How many were found so far, and how many are left to find.
use Rattle.std.proofs.Common.{◌≡◌, ◌+◌, length}
use Rattle.std.specs.List.{filter_map, range_with_len}
use Rattle.pair_rules.specs.Partners.{partner_at}
use Rattle.pair_rules.proofs.matching.partner.Given as goal

abbrev pub invariant-walk : goal.invariant-walk
invariant-walk l = length (filter_map (partner_at l.old l.new) (range_with_len 0 l.i)) + l.left ≡ l.k
