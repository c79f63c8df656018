-- The labels before this one are the same.
use Rattle.std.proofs.Common.{ℕ, ◌<◌, ◌≡◌, map, slice_get}
use Rattle.abi_types.specs.Plain.{plain_label}
use Rattle.cert_check.proofs.same_looks.same_labels.Given as goal

abbrev pub invariant-loop-k : goal.invariant-loop-k
invariant-loop-k l = (j : ℕ) → j < l.k → slice_get (map plain_label l.one) j ≡ slice_get (map plain_label l.other) j
