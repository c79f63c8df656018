-- Each function has its own call, which has a place for each parameter.
use Rattle.std.proofs.Common.{ap, sym, length, ◌∙◌}
use Rattle.abi_types.specs.declared.place.CallShape.{CallShape}
use Rattle.abi_types.specs.Graphs.{shaped, view_at}
use Rattle.psabi.specs.Calls.{calls_of}
use Rattle.psabi.proofs.LawLemmas.{parameters_have_places}
use Rattle.psabi.proofs.ShapedCalls.{call-same, given-right}
use Rattle.psabi.proofs.laws.given_calls_have_places.Goals as goal

pub returns : goal.returns
returns c nodes is i function =
    let given = shaped nodes (calls_of nodes) in
    let stay = c.shapes_change_calls_alone.ensures nodes (calls_of nodes) in
    let right = given-right nodes is stay.many i ∙ sym (call-same nodes given stay.nodes_stay i) in
    ap (λ (call : CallShape). length call.params) right ∙ parameters_have_places given i function ∙ c.params_are_counted.ensures (view_at given i).parts
