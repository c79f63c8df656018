-- None so far is declared.
use Rattle.std.proofs.Common.{◌≡◌, ◌<◌, ℕ, false}
use Rattle.abi_types.specs.Graphs.{view_at}
use Rattle.library_layout.specs.Structures.{is_declaration}
use Rattle.library_layout.proofs.layouts.is_declared.Given as goal

abbrev pub invariant-loop-number : goal.invariant-loop-number
invariant-loop-number g l = (k : ℕ) → k < l.number → is_declaration (view_at l.graph k) l.tag ≡ false
