use Rattle.cli_args.proofs.Asking.{trial_asks}
use Rattle.cli_args.proofs.laws.trial_takes_a_number.Goals as goal

pub returns : goal.returns
returns c = trial_asks
