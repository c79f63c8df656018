-- A call of `run`, and the readable bytes that the inputs of a command gave in it.
use Rattle.std.specs.Prelude.{◌≡◌, ℕ, List, Option}
use Rattle.std.specs.Borrow.{Bor}
use Rattle.cli_args.specs.Commands.{PlainRequest}
use Rattle.cli_args.specs.ParsedArguments.{request, arguments_by}
use Rattle.cli_args.specs.Words.{texts}
use Rattle.commands.specs.Commands.{Wanted, asks_of, places_of}
use Rattle.commands.specs.Faults.{AreReadable}
use Rattle.commands.specs.Reading.{Gives, Reading, reading_of}
use Rattle.report.specs.Listening.{Voice}

-- A call, reduced to what its answer depends on: its arguments, the voices of the listeners that the caller passes, and what is
-- known about the inputs.
pub record Call : Type 0 where
  pub words : List (List ℕ)
  pub voices : List Voice
  pub reading : Reading

-- the call of a run with these arguments and with listeners of these voices, which changes inputs I from the old value to the new
-- one
abbrev pub call_of : {I : Type 0} → (I → List ℕ → Option (List ℕ)) → (I → List ℕ → ℕ) → (I → ℕ) → (I → ℕ) → List Voice → List (Bor (List ℕ)) → I → I → Call
call_of told faults given started voices words old new = record { words = texts words; voices = voices; reading = reading_of told faults given started old new }

-- The arguments make this request, and its inputs gave these bytes: the known ones, where they are known. They are within the
-- limit, and have no fault for which the command checks.
pub record Reads (call : Call) (asked : PlainRequest) (inputs : List Wanted) (all : List (List ℕ)) : Type 0 where
  pub words : arguments_by call.words ≡ request asked
  pub given : Gives call.reading.told (places_of inputs) all
  pub readable : AreReadable (asks_of inputs) all
