-- The fates so far.
use Rattle.std.proofs.Common.{◌≡◌, map}
use Rattle.std.specs.List.{range_with_len}
use Rattle.side_notes.specs.Counts.{fate_at}
use Rattle.side_notes.proofs.counts.fates_of.Given as goal

abbrev pub invariant-loop-k : goal.invariant-loop-k
invariant-loop-k l = l.list.items ≡ map (fate_at l.marks.exports l.bound) (range_with_len 0 l.k)
