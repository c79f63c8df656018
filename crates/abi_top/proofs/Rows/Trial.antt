-- `trial`: that it says one thing.
use Rattle.std.proofs.Common.{◌≡◌, ◌≤◌, ℕ, List, Option, sym, ◌∙◌}
use Rattle.abi_base.specs.declared.remark.Remark.{Remark}
use Rattle.abi_top.specs.Calls.{Call}
use Rattle.cli_args.specs.Commands.{trial}
use Rattle.cli_args.specs.ParsedArguments.{request, arguments_by}
use Rattle.commands.specs.OneReply.{SaysOne}
use Rattle.commands.specs.declared.verdict.Verdict.{Verdict}
use Rattle.library_check.specs.Rows.Trial.{IsTried, trial_inputs, trial_says}
use Rattle.library_check.specs.trial.Trials.{IsTrialText}
use Rattle.trial_libraries.specs.Limits.{most_functions}

module _ (call : Call) (v : Verdict) (untyped : Option Remark) (text : List ℕ) where
  abbrev pub OfTrial : Type 0
  OfTrial = (count : ℕ) × (arguments_by call.words ≡ request (trial count)) × IsTried count v untyped text

-- the law by which it has one text
abbrev pub HasOneTrial : Type 0
HasOneTrial =
    (count : ℕ) (text other : List ℕ) → count ≤ most_functions → IsTrialText count text → IsTrialText count other → text ≡ other

pub trial_says_one : HasOneTrial → (count : ℕ) → count ≤ most_functions → SaysOne (trial_inputs count) (trial_says count)
trial_says_one one_text count counted all short readable v w u x text other one two =
    (one.done ∙ sym two.done, one.none ∙ sym two.none, one_text count text other counted one.lines two.lines)
