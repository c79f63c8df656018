use Rattle.cli_args.proofs.Asking.{exports_asks}
use Rattle.cli_args.proofs.laws.exports_takes_one_file.Goals as goal

pub returns : goal.returns
returns c = exports_asks
