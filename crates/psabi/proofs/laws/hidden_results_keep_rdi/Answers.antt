-- All arguments come after what the result takes.
use Rattle.psabi.proofs.LawLemmas.{hidden_keeps_rdi}
use Rattle.psabi.proofs.laws.hidden_results_keep_rdi.Goals as goal

pub returns : goal.returns
returns c nodes i a p hidden e holds = hidden_keeps_rdi nodes i a p hidden e holds
