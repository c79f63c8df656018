-- The labels before this one are the same.
use Rattle.std.proofs.Common.{ℕ, ◌<◌, ◌≡◌, map, get_or}
use Rattle.abi_types.specs.Plain.{plain_label}
use Rattle.type_classes.proofs.SameLemmas.{no_label}
use Rattle.type_classes.proofs.same.same_labels.Given as goal

abbrev pub invariant-loop-k : goal.invariant-loop-k
invariant-loop-k l = (j : ℕ) → j < l.k → get_or (map plain_label l.one) j no_label ≡ get_or (map plain_label l.other) j no_label
