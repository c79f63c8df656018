use Rattle.cli_args.proofs.Asking.{compose_asks}
use Rattle.cli_args.proofs.laws.compose_takes_five_files.Goals as goal

pub returns : goal.returns
returns c = compose_asks
