use Rattle.cli_args.proofs.LineLemmas.{line_one}
use Rattle.cli_args.proofs.laws.one_answer.Goals as goal

pub returns : goal.returns
returns c = line_one
