-- The parts before this one are the same.
use Rattle.std.proofs.Common.{ℕ, ◌<◌, ◌≡◌, map, slice_get}
use Rattle.abi_types.specs.ClassLooks.{part_seen}
use Rattle.cert_check.specs.Accepted.{class_in}
use Rattle.cert_check.proofs.same_looks.same_parts.Given as goal

abbrev pub invariant-loop-k : goal.invariant-loop-k
invariant-loop-k g l = (j : ℕ) → j < l.k → slice_get (map (part_seen (class_in l.graph l.lines)) l.one.parts) j ≡ slice_get (map (part_seen (class_in l.graph l.lines)) l.other.parts) j
