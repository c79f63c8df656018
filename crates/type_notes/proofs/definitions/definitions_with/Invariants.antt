-- The definitions in the units so far.
use Rattle.std.proofs.Common.{◌≡◌, ℕ, List}
use Rattle.std.specs.Prelude.{filter}
use Rattle.type_notes.specs.DefinedElsewhere.{defines, numbers_under, tops_below}
use Rattle.type_notes.proofs.definitions.definitions_with.Given as goal

abbrev pub invariant-loop-root : goal.invariant-loop-root
invariant-loop-root l = (q : List ℕ) → numbers_under l.numbers q ≡ filter (defines l.dwarf q) (tops_below l.dwarf.tree l.tag l.root)
