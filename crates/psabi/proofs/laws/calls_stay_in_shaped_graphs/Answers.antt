-- Nothing that a call depends on changes.
use Rattle.abi_types.specs.Graphs.{shaped}
use Rattle.psabi.proofs.ShapedCalls.{call-same}
use Rattle.psabi.proofs.laws.calls_stay_in_shaped_graphs.Goals as goal

pub returns : goal.returns
returns c nodes calls is i = call-same nodes (shaped nodes calls) (c.shapes_change_calls_alone.ensures nodes calls).nodes_stay i
