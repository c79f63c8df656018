use Rattle.cli_args.proofs.Asking.{app_asks}
use Rattle.cli_args.proofs.laws.app_takes_three_files.Goals as goal

pub returns : goal.returns
returns c = app_asks
