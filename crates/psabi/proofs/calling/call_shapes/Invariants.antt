-- The call shapes of the nodes so far.
use Rattle.std.proofs.Common.{◌≡◌, map}
use Rattle.std.specs.List.{range_with_len}
use Rattle.psabi.specs.Calls.{call_of}
use Rattle.psabi.specs.Found.{IsRight}
use Rattle.abi_base.specs.declared.limit.Limit.TheVariants.{Leaves}
use Rattle.psabi.proofs.calling.call_shapes.Given as goal

abbrev pub invariant-loop-i : goal.invariant-loop-i
invariant-loop-i g l = record {
  right : IsRight l.graph l.found;
  limit : l.walks.budget.limit ≡ Leaves;
  shapes : l.shapes ≡ map (call_of l.graph) (range_with_len 0 l.i);
}
