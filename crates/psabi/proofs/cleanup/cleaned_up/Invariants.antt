-- The eightbytes so far.
use Rattle.std.proofs.Common.{◌≡◌, ◌<◌, ℕ, length}
use Rattle.psabi.specs.Class.{class_at}
use Rattle.psabi.specs.Cleanup.{grounded}
use Rattle.psabi.proofs.cleanup.cleaned_up.Given as goal

abbrev pub invariant-loop-k : goal.invariant-loop-k
invariant-loop-k l = record {
  many : length l.cleaned ≡ 8;
  below : (j : ℕ) → j < l.k → class_at l.cleaned j ≡ grounded l.classes j;
}
