-- The members so far.
use Rattle.std.proofs.Common.{◌≡◌, map}
use Rattle.std.specs.List.{range_with_len}
use Rattle.abi_types.specs.Graphs.{part_at}
use Rattle.type_print.specs.Structures.{extent_in}
use Rattle.type_print.proofs.structure.members_of.Given as goal

abbrev pub invariant-loop-position : goal.invariant-loop-position
invariant-loop-position g l = l.members.items ≡ map (λ k. extent_in l.graph k (part_at l.view k)) (range_with_len 0 l.position)
