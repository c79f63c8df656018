-- No argument takes more registers than are left.
use Rattle.psabi.proofs.LawLemmas.{arguments_hold_theirs}
use Rattle.psabi.proofs.laws.arguments_hold_their_registers.Goals as goal

pub returns : goal.returns
returns c nodes i a p e n = arguments_hold_theirs nodes i a p e n
