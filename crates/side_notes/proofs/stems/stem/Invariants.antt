-- The first bytes have the stem of the name.
use Rattle.std.proofs.Common.{◌≡◌, ◌≤◌, length, take}
use Rattle.side_notes.specs.Stems.{stem}
use Rattle.side_notes.proofs.stems.stem.Given as goal

abbrev pub invariant-bytes : goal.invariant-bytes
invariant-bytes l = record {
  inside : l.left ≤ length l.name;
  same : stem (take l.left l.name) ≡ stem l.name;
}

abbrev pub decreases-bytes : goal.decreases-bytes
decreases-bytes l = l.left
