-- What was counted so far, and what is left to count.
use Rattle.std.proofs.Common.{◌≡◌, ◌+◌, count_by, map, take}
use Rattle.abi_types.specs.Parts.{plain_part, like}
use Rattle.abi_types.proofs.alike.place_of.Given as goal

abbrev pub invariant-loop-i : goal.invariant-loop-i
invariant-loop-i g l = count_by (like (plain_part g.Jx.Index.number_of l.part)) (take l.i (map (plain_part g.Ix.Index.number_of) l.items)) + l.left ≡ l.k
