use Rattle.std.proofs.Common.{◌≡◌, drop}
use Rattle.cli_args.specs.Words.{texts}
use Rattle.cli_args.specs.WrongWords.{without_value}
use Rattle.cli_args.proofs.wrong.option_without_value.Given as goal

abbrev pub invariant-loop-index : goal.invariant-loop-index
invariant-loop-index l = without_value (texts (drop l.index l.words)) ≡ without_value (texts l.words)
