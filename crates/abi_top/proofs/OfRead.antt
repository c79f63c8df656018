-- Verdicts on the bytes that were read.
use Rattle.std.proofs.Common.{◌≡◌, ℕ, List, refl, subst, sym}
use Rattle.cli_args.specs.Commands.{PlainRequest}
use Rattle.cli_args.specs.ParsedArguments.{arguments_by, request}
use Rattle.commands.specs.Read.{IsOnRead}
use Rattle.commands.specs.declared.input.Input.{Input}
use Rattle.commands.specs.declared.outcome.Outcome.{Outcome}
use Rattle.commands.specs.declared.outcome.Outcome.TheVariants.{Judged, Unreadable, ReadFault, Help, Usage, NoMemory, WriteFault}
use Rattle.abi_top.specs.Answer.{ReadsFor, row_of}
use Rattle.abi_top.specs.Calls.{Call}

-- of a request
pub for_request : (call : Call) (asked : PlainRequest) → arguments_by call.words ≡ request asked → (roles : List Input) (all : List (List ℕ)) (outcome : Outcome) (text : List ℕ)
    → IsOnRead call.reading (row_of call asked).inputs (row_of call asked).says roles all outcome text → ReadsFor call roles all outcome (λ t. t ≡ text)
for_request call asked is roles all (Judged verdict untyped) text on = (asked, is, (text, on, refl))
for_request call asked is roles all (Unreadable which fault) text on = tt
for_request call asked is roles all (ReadFault which) text on = tt
for_request call asked is roles all Help text on = tt
for_request call asked is roles all Usage text on = tt
for_request call asked is roles all (NoMemory cause) text on = tt
for_request call asked is roles all WriteFault text on = tt

-- with what holds of the text
pub with_text : (call : Call) (roles : List Input) (all : List (List ℕ)) (outcome : Outcome) (text : List ℕ) (P : List ℕ → Type 0)
    → ReadsFor call roles all outcome (λ t. t ≡ text) → P text → ReadsFor call roles all outcome P
with_text call roles all (Judged verdict untyped) text P (asked, is, (its, on, same)) holds = (asked, is, (its, on, subst P (sym same) holds))
with_text call roles all (Unreadable which fault) text P on holds = tt
with_text call roles all (ReadFault which) text P on holds = tt
with_text call roles all Help text P on holds = tt
with_text call roles all Usage text P on holds = tt
with_text call roles all (NoMemory cause) text P on holds = tt
with_text call roles all WriteFault text P on holds = tt
