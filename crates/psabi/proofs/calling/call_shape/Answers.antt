-- Where nothing was found, all is right.
use Rattle.psabi.proofs.FoundLemmas.{IsRight-none}
use Rattle.psabi.proofs.calling.call_shape.Goals as goal

pub shape_with-requires-clause-right : goal.shape_with-requires-clause-right
shape_with-requires-clause-right g c = rw c.as_mut_slice.ensures.value (IsRight-none c.args.graph.now c.in_ok-found.found.items c.in_ok-found.ensures.found)
