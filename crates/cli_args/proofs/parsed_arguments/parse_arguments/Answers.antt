use Rattle.std.proofs.Common.{rules, ◌∙◌, sym}
use Rattle.cli_args.specs.Words.{texts}
use Rattle.cli_args.proofs.Judging.{when_taken, when_help, when_version, when_wrong}
use Rattle.cli_args.proofs.parsed_arguments.parse_arguments.Goals as goal

pub returns-then-asks_for_version-clause-asked : goal.returns-then-asks_for_version-clause-asked
returns-then-asks_for_version-clause-asked c = when_version (texts c.args.words.now) (sym c.asks_for_version.ensures ∙ c.if-asks_for_version.true)

pub returns-in-Ok-clause-asked : goal.returns-in-Ok-clause-asked
returns-in-Ok-clause-asked c = c.judged.ensures ∙ when_taken (texts c.args.words.now) (sym c.asks_for_version.ensures ∙ c.if-asks_for_version.false) c.in-Ok.matches (search rules)

pub returns-in-Err-Help-clause-asked : goal.returns-in-Err-Help-clause-asked
returns-in-Err-Help-clause-asked c = when_help (texts c.args.words.now) (sym c.asks_for_version.ensures ∙ c.if-asks_for_version.false) (search rules)

pub returns-in-Err-Wrong-clause-asked : goal.returns-in-Err-Wrong-clause-asked
returns-in-Err-Wrong-clause-asked c = when_wrong (texts c.args.words.now) (sym c.asks_for_version.ensures ∙ c.if-asks_for_version.false) (search rules)
