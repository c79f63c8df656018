-- The exports before this one have their lines.
use Rattle.std.proofs.Common.{ℕ, ◌<◌}
use Rattle.abi_types.specs.Exports.{PlainExport}
use Rattle.cert_check.specs.Compatible.{IsCompared}
use Rattle.cert_check.specs.Accepted.{HasBinding}
use Rattle.cert_check.specs.CertifiedPair.{case_of}
use Rattle.cert_check.proofs.bindings.first_unbound.Given as goal

abbrev pub invariant-loop-k : goal.invariant-loop-k
invariant-loop-k l = (j : ℕ) (e : PlainExport) → j < l.k → IsCompared (case_of l.ground).sides j e → HasBinding (case_of l.ground) e.symbol e
