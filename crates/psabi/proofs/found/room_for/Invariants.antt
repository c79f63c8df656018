-- Nothing is found so far.
use Rattle.std.proofs.Common.{◌≡◌, ℕ, get_or}
use Rattle.psabi.specs.Found.{nothing_found}
use Rattle.psabi.proofs.found.room_for.Given as goal

abbrev pub invariant-loop-k : goal.invariant-loop-k
invariant-loop-k l = (i : ℕ) → get_or l.found.items i nothing_found ≡ nothing_found
