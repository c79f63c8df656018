-- The eightbytes below have the leaf, and the others are as before.
use Rattle.std.proofs.Common.{◌≡◌, ℕ, ◌<◌, ◌≤◌, length}
use Rattle.psabi.specs.Class.{class_at}
use Rattle.psabi.specs.Merging.{merge_leaf}
use Rattle.psabi.proofs.eightbytes.Eightbytes.add.Given as goal

abbrev pub invariant-loop-k : goal.invariant-loop-k
invariant-loop-k l = record {
  aligned : l.self.aligned ≡ l.before.aligned;
  many : length l.self.classes ≡ 8;
  below : (j : ℕ) → j < l.k → class_at l.self.classes j ≡ merge_leaf j (class_at l.before.classes j) l.leaf;
  above : (j : ℕ) → l.k ≤ j → class_at l.self.classes j ≡ class_at l.before.classes j;
}
