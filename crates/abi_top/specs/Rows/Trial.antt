-- `trial`: what `run` promises of it.
use Rattle.std.specs.Prelude.{◌≡◌, ℕ, List}
use Rattle.abi_top.specs.Calls.{Call}
use Rattle.cli_args.specs.Commands.{trial}
use Rattle.cli_args.specs.ParsedArguments.{arguments_by, request}
use Rattle.library_check.specs.trial.Trials.{IsTrialText}

-- the command is `trial` with a number, and P holds for the lines of a trial of this many functions
abbrev pub OnTrial : Call → (List ℕ → Type 0) → Type 0
OnTrial call P = (count : ℕ) × (text : List ℕ) × (arguments_by call.words ≡ request (trial count)) × IsTrialText count text × P text
