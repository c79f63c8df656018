use Rattle.std.proofs.Common.{◌≡◌, ◌≤◌, ◌+◌, drop}
use Rattle.suppressions.specs.Weights.{escaped_letters}
use Rattle.suppressions.proofs.WeightLemmas.{rest_of}
use Rattle.suppressions.proofs.weight.escaped_letters.Given as goal

-- the letters so far, and those of the rest
abbrev pub invariant-loop-byte : goal.invariant-loop-byte
invariant-loop-byte l = (escaped_letters l.text ≡ l.count + rest_of l.escaped (drop l.byte-index l.text)) × (l.count ≤ l.byte-index)
