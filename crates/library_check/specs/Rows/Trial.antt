-- `trial`: the two libraries that it generates, the lines that it says of them, and the limits that they pass.
use Rattle.std.specs.Prelude.{◌≡◌, ℕ, List, [], ◌∷◌, Option, None}
use Rattle.abi_base.specs.declared.limit.Limit.{Limit}
use Rattle.abi_base.specs.declared.remark.Remark.{Remark}
use Rattle.commands.specs.Commands.{Wanted, own}
use Rattle.commands.specs.declared.input.Input.TheVariants.{Old, New}
use Rattle.commands.specs.declared.verdict.Verdict.{Verdict}
use Rattle.commands.specs.declared.verdict.Verdict.TheVariants.{Done}
use Rattle.trial_libraries.specs.Libraries.{library as made_library}
use Rattle.trial_libraries.specs.declared.making.Side.TheVariants as side
use Rattle.library_check.specs.Inputs.{library_at}
use Rattle.library_check.specs.Limits.{TrialPasses}
use Rattle.library_check.specs.trial.Trials.{IsTrialText}

-- the two libraries that a trial generates
abbrev pub trial_inputs : ℕ → List Wanted
trial_inputs count = library_at Old (own (made_library count side.Old)) ∷ library_at New (own (made_library count side.New)) ∷ []

-- the lines of a trial with this number of functions
pub record IsTried (count : ℕ) (v : Verdict) (untyped : Option Remark) (text : List ℕ) : Type 0 where
  pub done : v ≡ Done
  pub none : untyped ≡ None
  pub lines : IsTrialText count text

abbrev pub trial_says : ℕ → List (List ℕ) → Verdict → Option Remark → List ℕ → Type 0
trial_says count all v untyped text = IsTried count v untyped text

abbrev pub trial_passes : ℕ → List (List ℕ) → Limit → Type 0
trial_passes count all limit = TrialPasses count limit
