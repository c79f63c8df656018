-- The parameters so far have their places, and their rooms bound the stack.
use Rattle.std.proofs.Common.{◌≡◌, ◌≤◌, take}
use Rattle.std.specs.Prelude.{sum_by}
use Rattle.abi_types.specs.Graphs.{room_of, params_of}
use Rattle.psabi.specs.Arguments.{places, taken_by}
use Rattle.psabi.specs.Results.{registers_of_result}
use Rattle.psabi.specs.Found.{IsRight}
use Rattle.psabi.proofs.calling.shape_with.Given as goal

abbrev pub invariant-loop-k : goal.invariant-loop-k
invariant-loop-k g l = record {
  right : IsRight l.graph l.found;
  params : l.params ≡ places l.graph (registers_of_result l.outcome) (params_of (take l.k l.view.parts));
  taken : l.taken ≡ taken_by l.graph (registers_of_result l.outcome) (params_of (take l.k l.view.parts));
  general : l.taken.general ≤ 6;
  vector : l.taken.vector ≤ 8;
  stack : l.taken.stack ≤ sum_by (room_of l.graph) (take l.k l.view.parts);
}
