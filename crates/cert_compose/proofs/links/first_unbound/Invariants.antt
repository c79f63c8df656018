use Rattle.std.proofs.Common.{ℕ, ◌<◌}
use Rattle.cert_compose.specs.Between.{KeepsBinding}
use Rattle.cert_compose.specs.CertifiedChain.{chain_of}
use Rattle.cert_compose.proofs.links.first_unbound.Given as goal

abbrev pub invariant-loop-k : goal.invariant-loop-k
invariant-loop-k l = (j : ℕ) → j < l.k → KeepsBinding (chain_of l.ground) j
