-- The end of the stack never falls.
use Rattle.psabi.proofs.LawLemmas.{stack_ascends}
use Rattle.psabi.proofs.laws.stack_places_ascend.Goals as goal

pub returns : goal.returns
returns c nodes i a b from size from' size' lt e f = stack_ascends nodes i a b from size from' size' lt e f
