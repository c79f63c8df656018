-- Over inputs that tell their bytes there is one answer, since each command says one thing of them.
use Rattle.std.proofs.Common.{◌≡◌, ◌≢◌, ℕ, List, codes, refl, subst, sym, ◌∙◌, inl, inr}
use Rattle.abi_top.specs.Answer.{Answers, row_of}
use Rattle.abi_top.specs.Calls.{Call}
use Rattle.abi_top.specs.OneAnswer.{OneAnswer}
use Rattle.abi_top.proofs.lemmas.ParsedArguments.{asks_help, asks_usage, asks_version, reply_of}
use Rattle.abi_top.proofs.Rows.{HaveOneText, says_one}
use Rattle.cli_args.specs.Commands.{usage_text}
use Rattle.cli_args.specs.ParsedArguments.{usage, help, version, arguments_by}
use Rattle.cli_args.specs.Release.{version_text}
use Rattle.commands.specs.declared.outcome.Outcome.{Outcome}
use Rattle.commands.specs.declared.outcome.Outcome.TheVariants.{Judged, Unreadable, ReadFault, Help, Usage, NoMemory, WriteFault}
use Rattle.commands.proofs.lemmas.Single.{one_reply}

module _ (call : Call) where
  usage_or_help : arguments_by call.words ≡ usage → arguments_by call.words ≡ help → ⊥
  usage_or_help one two = cc

  usage_or_version : arguments_by call.words ≡ usage → arguments_by call.words ≡ version → ⊥
  usage_or_version one two = cc

  pub help_or_version : arguments_by call.words ≡ help → arguments_by call.words ≡ version → ⊥
  help_or_version one two = cc

  pub usage_alone : (outcome : Outcome) (text : List ℕ) → arguments_by call.words ≡ usage → Answers call outcome text → (outcome ≡ Usage) × (text ≡ usage_text)
  usage_alone Usage text none answer = (refl, answer.1)
  usage_alone Help text none answer = elim answer [
    | inl h ↦ absurd (usage_or_help none h.0)
    | inr h ↦ absurd (usage_or_version none h.0)
  ]
  usage_alone (ReadFault which) text none answer = absurd (asks_usage call answer.0 answer.1 none)
  usage_alone (Unreadable which fault) text none answer = absurd (asks_usage call answer.0 answer.1 none)
  usage_alone (Judged v untyped) text none answer = absurd (asks_usage call answer.0 answer.1 none)
  usage_alone (NoMemory cause) text none answer = absurd (asks_usage call answer.0 answer.1 none)
  usage_alone WriteFault text none answer = absurd (asks_usage call answer.0 answer.1 none)

  pub help_alone : (outcome : Outcome) (text : List ℕ) → arguments_by call.words ≡ help → Answers call outcome text → (outcome ≡ Help) × (text ≡ usage_text)
  help_alone Usage text none answer = absurd (usage_or_help answer.0 none)
  help_alone Help text none answer = elim answer [
    | inl h ↦ (refl, h.1)
    | inr h ↦ absurd (help_or_version none h.0)
  ]
  help_alone (ReadFault which) text none answer = absurd (asks_help call answer.0 answer.1 none)
  help_alone (Unreadable which fault) text none answer = absurd (asks_help call answer.0 answer.1 none)
  help_alone (Judged v untyped) text none answer = absurd (asks_help call answer.0 answer.1 none)
  help_alone (NoMemory cause) text none answer = absurd (asks_help call answer.0 answer.1 none)
  help_alone WriteFault text none answer = absurd (asks_help call answer.0 answer.1 none)

  pub version_alone : (outcome : Outcome) (text : List ℕ) → arguments_by call.words ≡ version → Answers call outcome text → (outcome ≡ Help) × (text ≡ version_text (codes "abi"))
  version_alone Usage text none answer = absurd (usage_or_version answer.0 none)
  version_alone Help text none answer = elim answer [
    | inl h ↦ absurd (help_or_version h.0 none)
    | inr h ↦ (refl, h.1)
  ]
  version_alone (ReadFault which) text none answer = absurd (asks_version call answer.0 answer.1 none)
  version_alone (Unreadable which fault) text none answer = absurd (asks_version call answer.0 answer.1 none)
  version_alone (Judged v untyped) text none answer = absurd (asks_version call answer.0 answer.1 none)
  version_alone (NoMemory cause) text none answer = absurd (asks_version call answer.0 answer.1 none)
  version_alone WriteFault text none answer = absurd (asks_version call answer.0 answer.1 none)

-- the answer to arguments that request the help
pub help_says : (call : Call) (text : List ℕ) (P : List ℕ → Type 0) → P text → Answers call Help text → arguments_by call.words ≢ version → (arguments_by call.words ≡ help) × P usage_text
help_says call text P holds answer other = elim answer [
  | inl h ↦ (h.0, subst P h.1 holds)
  | inr h ↦ absurd (other h.0)
]

pub one_answer : HaveOneText → OneAnswer
one_answer have call (inl wrong) o p text other o_not p_not one two =
    let first = usage_alone call o text wrong one in
    let second = usage_alone call p other wrong two in (first.0 ∙ sym second.0, first.1 ∙ sym second.1)
one_answer have call (inr (inl helped)) o p text other o_not p_not one two =
    let first = help_alone call o text helped one in
    let second = help_alone call p other helped two in (first.0 ∙ sym second.0, first.1 ∙ sym second.1)
one_answer have call (inr (inr (inl versioned))) o p text other o_not p_not one two =
    let first = version_alone call o text versioned one in
    let second = version_alone call p other versioned two in (first.0 ∙ sym second.0, first.1 ∙ sym second.1)
one_answer have call (inr (inr (inr (asked, is, decided, all, tells)))) o p text other o_not p_not one two =
    one_reply call.reading (row_of call asked).inputs (row_of call asked).says all tells (says_one have call asked is decided)
    o p text other o_not p_not (reply_of call asked is o text one) (reply_of call asked is p other two)
