-- `compose`: what its verdict says, and that it says one thing.
use Rattle.std.proofs.Common.{◌≡◌, ℕ, List, [], ◌∷◌, Option, None, sym, ◌∙◌, subst, inl, inr}
use Rattle.abi_base.specs.declared.remark.Remark.{Remark}
use Rattle.abi_top.specs.Calls.{Call}
use Rattle.abi_top.specs.Rows.Compose.{OnCompose}
use Rattle.cli_args.specs.Commands.{compose}
use Rattle.cli_args.specs.ParsedArguments.{request, arguments_by}
use Rattle.commands.specs.Commands.{asks_of, places_of}
use Rattle.commands.specs.Faults.{AreReadable}
use Rattle.commands.specs.OneReply.{SaysOne}
use Rattle.commands.specs.Reading.{Gives}
use Rattle.commands.specs.declared.verdict.Verdict.{Verdict}
use Rattle.library_check.specs.Compositions.{ComposesNone, PlainFiles}
use Rattle.library_check.specs.Rows.Compose.{ComposeSays, compose_inputs, compose_says}

module _ (call : Call) (v : Verdict) (untyped : Option Remark) (text : List ℕ) where
  abbrev pub OfCompose : Type 0
  OfCompose = OnCompose call (λ files. ComposeSays files v text × (untyped ≡ None))

  pub of_compose : (first_name middle_name last_name certificate1_name certificate2_name : List ℕ) → arguments_by call.words ≡ request (compose first_name middle_name last_name certificate1_name certificate2_name)
      → (all : List (List ℕ)) → Gives call.reading.told (places_of (compose_inputs first_name middle_name last_name certificate1_name certificate2_name)) all
      → AreReadable (asks_of (compose_inputs first_name middle_name last_name certificate1_name certificate2_name)) all → compose_says all v untyped text → OfCompose
  of_compose first_name middle_name last_name certificate1_name certificate2_name is [] gives readable said = absurd said
  of_compose first_name middle_name last_name certificate1_name certificate2_name is (a ∷ []) gives readable said = absurd said
  of_compose first_name middle_name last_name certificate1_name certificate2_name is (a ∷ b ∷ []) gives readable said = absurd said
  of_compose first_name middle_name last_name certificate1_name certificate2_name is (a ∷ b ∷ c ∷ []) gives readable said = absurd said
  of_compose first_name middle_name last_name certificate1_name certificate2_name is (a ∷ b ∷ c ∷ d ∷ []) gives readable said = absurd said
  of_compose first_name middle_name last_name certificate1_name certificate2_name is (first ∷ middle ∷ last ∷ certificate1 ∷ certificate2 ∷ []) gives readable said =
      (first_name, middle_name, last_name, certificate1_name, certificate2_name, record { first = first; middle = middle; last = last; certificate1 = certificate1; certificate2 = certificate2 }, record { words = is; given = gives; readable = readable }, said)
  of_compose first_name middle_name last_name certificate1_name certificate2_name is (a ∷ b ∷ c ∷ d ∷ e ∷ f ∷ more) gives readable said = absurd said

-- the line that says why two certificates do not compose is the text
pub composes_none : (text : List ℕ) (A : List ℕ → Type 0) → A text → (files : PlainFiles) → ComposesNone files (λ line. text ≡ line) → ComposesNone files A
composes_none text A appends files (refusal, inl said) = (refusal, inl (said.0, subst A said.1 appends))
composes_none text A appends files (refusal, inr (inl said)) = (refusal, inr (inl (said.0, said.1, subst A said.2 appends)))
composes_none text A appends files (refusal, inr (inr said)) = (refusal, inr (inr (said.0, subst A said.1 appends)))

-- the law by which it has one answer
abbrev pub HasOneComposition : Type 0
HasOneComposition = (files : PlainFiles) (v w : Verdict) (text other : List ℕ) → ComposeSays files v text → ComposeSays files w other → (v ≡ w) × (text ≡ other)

module _ (one_answer : HasOneComposition) where
  pub compose_says_one : (first_name middle_name last_name certificate1_name certificate2_name : List ℕ) → SaysOne (compose_inputs first_name middle_name last_name certificate1_name certificate2_name) compose_says
  compose_says_one first_name middle_name last_name certificate1_name certificate2_name [] short readable v w u x text other one two = absurd one
  compose_says_one first_name middle_name last_name certificate1_name certificate2_name (a ∷ []) short readable v w u x text other one two = absurd one
  compose_says_one first_name middle_name last_name certificate1_name certificate2_name (a ∷ b ∷ []) short readable v w u x text other one two = absurd one
  compose_says_one first_name middle_name last_name certificate1_name certificate2_name (a ∷ b ∷ c ∷ []) short readable v w u x text other one two = absurd one
  compose_says_one first_name middle_name last_name certificate1_name certificate2_name (a ∷ b ∷ c ∷ d ∷ []) short readable v w u x text other one two = absurd one
  compose_says_one first_name middle_name last_name certificate1_name certificate2_name (first ∷ middle ∷ last ∷ certificate1 ∷ certificate2 ∷ []) short readable v w u x text other one two =
      let files : PlainFiles = record { first = first; middle = middle; last = last; certificate1 = certificate1; certificate2 = certificate2 } in
      let both = one_answer files v w text other one.0 two.0 in
      (both.0, one.1 ∙ sym two.1, both.1)
  compose_says_one first_name middle_name last_name certificate1_name certificate2_name (a ∷ b ∷ c ∷ d ∷ e ∷ f ∷ more) short readable v w u x text other one two = absurd one
