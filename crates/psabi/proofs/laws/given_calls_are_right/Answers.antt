-- Each function has its own call, and what is no function has none.
use Rattle.std.proofs.Common.{sym, ◌∙◌}
use Rattle.abi_types.specs.Graphs.{shaped}
use Rattle.psabi.specs.Calls.{calls_of}
use Rattle.psabi.proofs.ShapedCalls.{call-same, given-right}
use Rattle.psabi.proofs.laws.given_calls_are_right.Goals as goal

pub returns : goal.returns
returns c nodes is i =
    let stay = c.shapes_change_calls_alone.ensures nodes (calls_of nodes) in
    given-right nodes is stay.many i ∙ sym (call-same nodes (shaped nodes (calls_of nodes)) stay.nodes_stay i)
