use Rattle.cli_args.proofs.Trials.{right}
use Rattle.cli_args.proofs.laws.a_trial_is_of_a_count.Goals as goal

pub returns : goal.returns
returns c = right
