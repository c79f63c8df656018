-- The definitions among the entries so far.
use Rattle.std.proofs.Common.{◌≡◌, ◌++◌, ℕ, List, take}
use Rattle.std.specs.Prelude.{filter}
use Rattle.type_notes.specs.DefinedElsewhere.{defines, numbers_under}
use Rattle.type_notes.proofs.definitions.keep_definitions.Given as goal

abbrev pub invariant-loop-k : goal.invariant-loop-k
invariant-loop-k l = (q : List ℕ) → numbers_under l.numbers q ≡ numbers_under l.fn.numbers q ++ filter (defines l.dwarf q) (take l.k l.entries)
