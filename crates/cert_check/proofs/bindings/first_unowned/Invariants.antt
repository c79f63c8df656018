-- The lines before this one have their exports.
use Rattle.std.proofs.Common.{ℕ, ◌<◌, ◌≡◌, Some, slice_get}
use Rattle.cert_check.specs.Bindings.{IsOwned}
use Rattle.cert_check.specs.CertifiedPair.{case_of}
use Rattle.cert_check.proofs.bindings.first_unowned.Given as goal

abbrev pub invariant-loop-k : goal.invariant-loop-k
invariant-loop-k l = (j n m : ℕ) → j < l.k → slice_get (case_of l.ground).cert.binds j ≡ Some (n, m) → IsOwned (case_of l.ground) n
