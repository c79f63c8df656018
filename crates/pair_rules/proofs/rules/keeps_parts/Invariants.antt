-- The parts before this one break no rule.
use Rattle.std.proofs.Common.{◌≡◌, ◌<◌, ℕ, true}
use Rattle.pair_rules.specs.Keeping.{keeps_part}
use Rattle.pair_rules.proofs.rules.keeps_parts.Given as goal

abbrev pub invariant-walk : goal.invariant-walk
invariant-walk l = (k : ℕ) → k < l.i → keeps_part l.old l.new k ≡ true
