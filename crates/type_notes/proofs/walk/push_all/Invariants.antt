-- The notes so far.
use Rattle.std.proofs.Common.{◌≡◌, ◌++◌, map, take}
use Rattle.type_notes.specs.NotedPairs.{difference_note}
use Rattle.type_notes.proofs.walk.push_all.Given as goal

abbrev pub invariant-loop-difference : goal.invariant-loop-difference
invariant-loop-difference l = l.notes ≡ l.fn.notes ++ map (difference_note l.export l.path) (take l.difference-index l.found)
