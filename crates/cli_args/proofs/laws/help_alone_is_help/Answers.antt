use Rattle.cli_args.proofs.HelpAlone.{long, short}
use Rattle.cli_args.proofs.laws.help_alone_is_help.Goals as goal

pub returns-clause-long : goal.returns-clause-long
returns-clause-long c = long

pub returns-clause-short : goal.returns-clause-short
returns-clause-short c = short
