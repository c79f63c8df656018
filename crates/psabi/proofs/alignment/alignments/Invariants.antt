-- The alignments of the nodes so far.
use Rattle.std.proofs.Common.{◌≡◌, map}
use Rattle.std.specs.List.{range_with_len}
use Rattle.psabi.specs.Alignment.{align_of}
use Rattle.psabi.specs.Found.{IsRight}
use Rattle.psabi.proofs.alignment.alignments.Given as goal

abbrev pub invariant-loop-i : goal.invariant-loop-i
invariant-loop-i g l = record {
  right : IsRight l.graph l.found;
  aligns : l.aligns ≡ map (align_of l.graph) (range_with_len 0 l.i);
}
