use Rattle.cli_args.proofs.Asking.{migrate_asks}
use Rattle.cli_args.proofs.laws.migrate_takes_three_files.Goals as goal

pub returns : goal.returns
returns c = migrate_asks
