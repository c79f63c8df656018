use Rattle.cli_args.proofs.Asking.{check_asks}
use Rattle.cli_args.proofs.laws.check_takes_two_files.Goals as goal

pub returns : goal.returns
returns c = check_asks
