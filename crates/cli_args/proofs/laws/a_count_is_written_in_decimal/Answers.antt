use Rattle.cli_args.proofs.Counting.{written}
use Rattle.cli_args.proofs.laws.a_count_is_written_in_decimal.Goals as goal

pub returns : goal.returns
returns c = written
