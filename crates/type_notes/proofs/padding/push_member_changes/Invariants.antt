-- What is said of the members so far.
use Rattle.std.proofs.Common.{◌≡◌, ◌++◌, take}
use Rattle.std.specs.List.{flat_map}
use Rattle.type_notes.specs.Padding.{part_changes}
use Rattle.type_notes.specs.TypePairs.{new_nodes, new_view, old_nodes, old_view}
use Rattle.type_notes.proofs.padding.push_member_changes.Given as goal

abbrev pub invariant-loop-k : goal.invariant-loop-k
invariant-loop-k l = l.list ≡ l.fn.list ++ flat_map (part_changes (old_nodes l.pair) (new_nodes l.pair) (old_view l.pair)) (take l.k (new_view l.pair).parts)
