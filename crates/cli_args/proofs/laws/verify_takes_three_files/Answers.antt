use Rattle.cli_args.proofs.Asking.{verify_asks}
use Rattle.cli_args.proofs.laws.verify_takes_three_files.Goals as goal

pub returns : goal.returns
returns c = verify_asks
