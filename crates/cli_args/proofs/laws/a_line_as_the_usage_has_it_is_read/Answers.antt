use Rattle.cli_args.proofs.Asking.{usage_line_asks}
use Rattle.cli_args.proofs.laws.a_line_as_the_usage_has_it_is_read.Goals as goal

pub returns : goal.returns
returns c = usage_line_asks
