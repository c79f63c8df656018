use Rattle.cli_args.proofs.HelpWords.{help_is_asked, help_looks_so}
use Rattle.cli_args.proofs.Judging.{help_is_answered}
use Rattle.cli_args.proofs.laws.help_is_asked.Goals as goal

pub returns-clause-asks : goal.returns-clause-asks
returns-clause-asks c = λ words e. help_is_asked words (help_is_answered words e)

pub returns-clause-looks : goal.returns-clause-looks
returns-clause-looks c = λ words e. help_looks_so words (help_is_answered words e)
