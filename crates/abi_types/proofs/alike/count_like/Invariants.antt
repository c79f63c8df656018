-- What was counted so far.
use Rattle.std.proofs.Common.{◌≡◌, ◌≤◌, count_by, map, take}
use Rattle.abi_types.specs.Parts.{plain_part, like}
use Rattle.abi_types.proofs.alike.count_like.Given as goal

abbrev pub invariant-loop-i : goal.invariant-loop-i
invariant-loop-i g l = record {
  counted : l.count ≡ count_by (like (plain_part g.Jx.Index.number_of l.part)) (take l.i (map (plain_part g.Ix.Index.number_of) l.items));
  few : l.count ≤ l.i;
}
