-- The answers that a run may give: a row for each outcome.
use Rattle.std.specs.Prelude.{◌≡◌, ◌⊎◌, ◌≤◌, ℕ, List, codes, length}
use Rattle.abi_base.specs.declared.limit.Limit.{Limit}
use Rattle.abi_top.specs.Calls.{Call}
use Rattle.abi_top.specs.Rows.{command_of}
use Rattle.cli_args.specs.Commands.{PlainRequest, usage_text}
use Rattle.cli_args.specs.ParsedArguments.{request, usage, help, version, arguments_by}
use Rattle.cli_args.specs.Release.{version_text}
use Rattle.commands.specs.Commands.{Command, places_of}
use Rattle.commands.specs.Read.{IsJudgedOn}
use Rattle.commands.specs.Reading.{AreTold}
use Rattle.commands.specs.Replies.{OnBytes, Replies}
use Rattle.commands.specs.declared.input.Input.{Input}
use Rattle.commands.specs.declared.outcome.Outcome.{Outcome}
use Rattle.commands.specs.declared.outcome.Outcome.TheVariants.{Judged, Unreadable, ReadFault, Help, Usage, NoMemory, WriteFault}

-- the row of a request in a call
abbrev pub row_of : Call → PlainRequest → Command
row_of call asked = command_of call.voices asked

-- if the arguments make a request, the bytes of its inputs are known
abbrev pub AsksForTold : Call → Type 0
AsksForTold call = (asked : PlainRequest) → arguments_by call.words ≡ request asked → AreTold call.reading.told (places_of (row_of call asked).inputs)

-- the arguments make a request for which P holds
abbrev pub Asks : Call → (PlainRequest → Type 0) → Type 0
Asks call P = (asked : PlainRequest) × (arguments_by call.words ≡ request asked) × P asked

-- The text that belongs to an outcome. The help is the usage lines, or the version of `abi`.
abbrev pub Answers : Call → Outcome → List ℕ → Type 0
Answers call Usage text = (arguments_by call.words ≡ usage) × (text ≡ usage_text)
Answers call Help text = ((arguments_by call.words ≡ help) × (text ≡ usage_text))
    ⊎ ((arguments_by call.words ≡ version) × (text ≡ version_text (codes "abi")))
Answers call outcome text = Asks call (λ asked. Replies call.reading (row_of call asked).inputs (row_of call asked).says outcome text)

-- this many bytes have room for the text of every answer to the call
abbrev pub HasRoom : Call → ℕ → Type 0
HasRoom call room = (outcome : Outcome) (text : List ℕ) → Answers call outcome text → length text ≤ room

-- the arguments make a request, and its inputs gave bytes that pass this limit
abbrev pub PassesLimit : Call → Limit → Type 0
PassesLimit call limit = Asks call (λ asked. OnBytes call.reading (row_of call asked).inputs (λ all. (row_of call asked).passes all limit))

-- bytes that pass no limit
abbrev pub IsModest : (List (List ℕ) → Limit → Type 0) → List (List ℕ) → Type 0
IsModest passes all = (limit : Limit) → passes all limit → ⊥

-- A verdict is on bytes that were read, with this text: the arguments make a request, and these are its inputs, with the bytes that they
-- gave.
abbrev pub ReadsFor : Call → (roles : List Input) (all : List (List ℕ)) → Outcome → (List ℕ → Type 0) → Type 0
ReadsFor call roles all (Judged verdict untyped) P =
    Asks call (λ asked. (text : List ℕ) × IsJudgedOn call.reading (row_of call asked).inputs (row_of call asked).says roles all verdict untyped text × P text)
ReadsFor call roles all (Unreadable which fault) P = Unit {0}
ReadsFor call roles all (ReadFault which) P = Unit {0}
ReadsFor call roles all Help P = Unit {0}
ReadsFor call roles all Usage P = Unit {0}
ReadsFor call roles all (NoMemory cause) P = Unit {0}
ReadsFor call roles all WriteFault P = Unit {0}
