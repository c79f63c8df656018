-- The places before this one are the same.
use Rattle.std.proofs.Common.{ℕ, ◌<◌, ◌≡◌, slice_get}
use Rattle.cert_check.proofs.same_looks.same_params.Given as goal

abbrev pub invariant-loop-k : goal.invariant-loop-k
invariant-loop-k l = (j : ℕ) → j < l.k → slice_get l.one j ≡ slice_get l.other j
