use Rattle.cli_args.proofs.Asking.{entries_asks}
use Rattle.cli_args.proofs.laws.entries_takes_one_file.Goals as goal

pub returns : goal.returns
returns c = entries_asks
