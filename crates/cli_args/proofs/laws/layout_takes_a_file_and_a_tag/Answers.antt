use Rattle.cli_args.proofs.Asking.{layout_asks}
use Rattle.cli_args.proofs.laws.layout_takes_a_file_and_a_tag.Goals as goal

pub returns : goal.returns
returns c = layout_asks
