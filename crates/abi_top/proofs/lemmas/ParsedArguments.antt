-- The answers of a call whose words ask for something are the replies of its command.
use Rattle.std.proofs.Common.{◌≡◌, ℕ, List, inl, inr, length, subst}
use Rattle.abi_top.specs.Answer.{Answers, Asks, row_of}
use Rattle.abi_top.specs.Calls.{Call}
use Rattle.cli_args.specs.Commands.{PlainRequest}
use Rattle.cli_args.specs.ParsedArguments.{request, usage, help, version, arguments_by}
use Rattle.abi_base.specs.declared.fault.Fault.{Fault}
use Rattle.commands.specs.Commands.{asks_of, places_of}
use Rattle.commands.specs.Faults.{FaultOfAll}
use Rattle.commands.specs.OneReply.{AreShortAfter, TellsFirst}
use Rattle.commands.specs.Replies.{Replies}
use Rattle.commands.specs.declared.input.Input.{Input}
use Rattle.commands.specs.Served.{AreServed, AreUnfailed, IsVerdict}
use Rattle.commands.specs.declared.outcome.Outcome.{Outcome}
use Rattle.commands.specs.declared.outcome.Outcome.TheVariants.{Judged, Unreadable, ReadFault, Help, Usage, NoMemory, WriteFault}
use Rattle.commands.proofs.lemmas.Single.{fault_answers, served_verdict, verdict_with}

pub asks_this : (call : Call) (asked : PlainRequest) (P : PlainRequest → Type 0) → arguments_by call.words ≡ request asked → Asks call P → P asked
asks_this call asked P is (other, is', holds) = let same : other ≡ asked = cc in subst P same holds

pub asks_usage : (call : Call) (asked : PlainRequest) → arguments_by call.words ≡ request asked → arguments_by call.words ≡ usage → ⊥
asks_usage call asked is none = cc

pub asks_help : (call : Call) (asked : PlainRequest) → arguments_by call.words ≡ request asked → arguments_by call.words ≡ help → ⊥
asks_help call asked is none = cc

pub asks_version : (call : Call) (asked : PlainRequest) → arguments_by call.words ≡ request asked → arguments_by call.words ≡ version → ⊥
asks_version call asked is none = cc

module _ (call : Call) (asked : PlainRequest) (is : arguments_by call.words ≡ request asked) where
  this : (outcome : Outcome) (text : List ℕ) → Asks call (λ a. Replies call.reading (row_of call a).inputs (row_of call a).says outcome text)
      → Replies call.reading (row_of call asked).inputs (row_of call asked).says outcome text
  this outcome text answer = asks_this call asked (λ a. Replies call.reading (row_of call a).inputs (row_of call a).says outcome text) is answer

  pub reply_of : (outcome : Outcome) (text : List ℕ) → Answers call outcome text → Replies call.reading (row_of call asked).inputs (row_of call asked).says outcome text
  reply_of Usage text answer = absurd (asks_usage call asked is answer.0)
  reply_of Help text answer = elim answer [
    | inl h ↦ absurd (asks_help call asked is h.0)
    | inr h ↦ absurd (asks_version call asked is h.0)
  ]
  reply_of (Judged v untyped) text answer = this (Judged v untyped) text answer
  reply_of (Unreadable which fault) text answer = this (Unreadable which fault) text answer
  reply_of (ReadFault which) text answer = this (ReadFault which) text answer
  reply_of (NoMemory cause) text answer = this (NoMemory cause) text answer
  reply_of WriteFault text answer = this WriteFault text answer

  pub answer_of_reply : (outcome : Outcome) (text : List ℕ) → Replies call.reading (row_of call asked).inputs (row_of call asked).says outcome text → Answers call outcome text
  answer_of_reply Usage text reply = absurd reply
  answer_of_reply Help text reply = absurd reply
  answer_of_reply (Judged v untyped) text reply = (asked, is, reply)
  answer_of_reply (Unreadable which fault) text reply = (asked, is, reply)
  answer_of_reply (ReadFault which) text reply = (asked, is, reply)
  answer_of_reply (NoMemory cause) text reply = (asked, is, reply)
  answer_of_reply WriteFault text reply = (asked, is, reply)

  -- where all inputs are served, the answer is a verdict, with a text of which a fact is known
  pub complete_says : (all : List (List ℕ)) → AreServed call.reading (row_of call asked).inputs all → (outcome : Outcome) (text : List ℕ) (P : List ℕ → Type 0)
      → Answers call outcome text → P text → IsVerdict (row_of call asked).says all outcome P
  complete_says all served outcome text P answer holds =
      verdict_with (row_of call asked).says all outcome text P
      (served_verdict call.reading (row_of call asked).inputs (row_of call asked).says all outcome text (reply_of outcome text answer) served) holds

  -- where the first inputs tell their bytes, no reading failed and no later input is too long, the first fault is the answer
  pub fault_says : (all : List (List ℕ)) → TellsFirst call.reading.told (places_of (row_of call asked).inputs) all
      → AreShortAfter call.reading (length all) (places_of (row_of call asked).inputs) → AreUnfailed call.reading (row_of call asked).inputs
      → (which : Input) (fault : Fault) → FaultOfAll (asks_of (row_of call asked).inputs) all which fault → (outcome : Outcome) (text : List ℕ) → Answers call outcome text → outcome ≡ Unreadable which fault
  fault_says all tells after unfailed which fault first outcome text answer =
      fault_answers call.reading (row_of call asked).inputs (row_of call asked).says all outcome text (reply_of outcome text answer) which fault tells unfailed after first
