-- The exports before this one keep it.
use Rattle.std.proofs.Common.{ℕ, ◌<◌}
use Rattle.cert_check.specs.Accepted.{KeepsRules}
use Rattle.cert_check.specs.CertifiedPair.{case_of}
use Rattle.cert_check.proofs.exports.first_broken.Given as goal

abbrev pub invariant-loop-k : goal.invariant-loop-k
invariant-loop-k l = (j : ℕ) → j < l.k → KeepsRules (case_of l.ground) j
