-- The registers of each argument are those that it takes.
use Rattle.psabi.proofs.LawLemmas.{arguments_share_none}
use Rattle.psabi.proofs.laws.arguments_share_no_register.Goals as goal

pub returns : goal.returns
returns c nodes i a b p q lt e f n = arguments_share_none nodes i a b p q lt e f n
