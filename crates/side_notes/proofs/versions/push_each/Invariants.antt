-- The notes on the versions so far.
use Rattle.std.proofs.Common.{◌≡◌, ◌++◌, ℕ, List, take}
use Rattle.std.specs.Borrow.{Bor}
use Rattle.std.specs.List.{flat_map}
use Rattle.side_notes.specs.Versions.{notes_if_new}
use Rattle.side_notes.proofs.versions.push_each.Given as goal

abbrev pub invariant-loop-version : goal.invariant-loop-version
invariant-loop-version l = l.notes ≡ l.fn.notes ++ flat_map (λ (v : Bor (List ℕ)). notes_if_new l.known v.now) (take l.version-index l.versions)
