-- None so far has the tag.
use Rattle.std.proofs.Common.{◌≡◌, ◌<◌, ℕ, false}
use Rattle.abi_types.specs.Graphs.{view_at}
use Rattle.library_layout.specs.Structures.{is_other}
use Rattle.library_layout.proofs.others.has_other.Given as goal

abbrev pub invariant-loop-number : goal.invariant-loop-number
invariant-loop-number g l = (k : ℕ) → k < l.number → is_other (view_at l.graph k) l.other l.tag ≡ false
