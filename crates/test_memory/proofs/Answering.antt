-- Over two libraries that fit in memory, `check` has a verdict, and which one it is says whether the new library may replace the
-- old one.
use Rattle.std.proofs.Common.{◌≡◌, ◌≢◌, ◌↔◌, ◌≤◌, ℕ, length, List, [], ◌∷◌, Option, Some, None, IsSome, refl, sym, ◌∙◌, ap, subst, arith}
use Rattle.std.specs.Prelude.{codes, map}
use Rattle.abi_base.specs.Causes.{Rose, SameCounts}
use Rattle.abi_base.specs.Limits.{sink_room}
use Rattle.abi_base.specs.declared.fault.NoMemory.{NoMemory as Cause}
use Rattle.abi_base.specs.declared.remark.Remark.{Remark}
use Rattle.abi_top.specs.Answer.{Answers, AsksForTold, HasRoom, row_of}
use Rattle.abi_top.specs.Calls.{Call}
use Rattle.cli_args.specs.Commands.{PlainRequest, check}
use Rattle.cli_args.specs.ParsedArguments.{arguments_by, request}
use Rattle.cli_args.specs.Words.{IsNoOption}
use Rattle.commands.specs.Commands.{named, places_of}
use Rattle.commands.specs.declared.input.Input.TheVariants.{Old, New}
use Rattle.commands.specs.Outcomes.{IsNoMemory}
use Rattle.commands.specs.Reading.{AreTold, reading_of}
use Rattle.commands.specs.Served.{AreServed, IsServed, IsVerdict}
use Rattle.commands.specs.declared.outcome.Outcome.{Outcome}
use Rattle.commands.specs.declared.outcome.Outcome.TheVariants.{Judged, NoMemory}
use Rattle.commands.specs.declared.verdict.Verdict.{Verdict}
use Rattle.commands.specs.declared.verdict.Verdict.TheVariants.{Yes, No, Refused, Done}
use Rattle.commands.proofs.lemmas.Single.{served_verdict}
use Rattle.abi_top.proofs.lemmas.ParsedArguments.{reply_of}
use Rattle.library_check.specs.Checks.{Compatible}
use Rattle.library_check.specs.Inputs.{library_at, rules_at}
use Rattle.library_check.specs.Remarks.{remark_on}
use Rattle.library_check.specs.Rows.Check.{CheckSays, check_says}
use Rattle.report.specs.Listening.{Voice}
use Rattle.suppression_text.specs.Faults.{rule_fault}
use Rattle.report.specs.declared.styles.report_option.ReportStyle.TheVariants.{Text}
use Rattle.report.specs.styles.Wanted.{wanted_voices}
use Rattle.test_memory.specs.Memory.{FitsInMemory}

-- what the words ask for
abbrev pub this_check : PlainRequest
this_check = check None Text (codes "old") (codes "new")

pub no_option_old : IsNoOption (codes "old")
no_option_old same = cc

pub no_option_new : IsNoOption (codes "new")
no_option_new same = cc

-- a count that stands at 0 did not rise
pub not_risen : (before now : ℕ) → before ≡ 0 → now ≡ before → Rose before now → ⊥
not_risen before now none same rose = omega (arith, none, same, rose)

-- memory did not run out, if the outcome is another one
pub is_other : (outcome : Outcome) → ((cause : Cause) → outcome ≢ NoMemory cause) → IsNoMemory outcome → ⊥
is_other (NoMemory cause) other is = other cause refl
is_other outcome other is = absurd is

-- ---- the answer of a call to check

module _ (call : Call) (asked : PlainRequest) (is : arguments_by call.words ≡ request asked) where
  -- where all inputs are served, the answer is a verdict
  pub verdict_of : (all : List (List ℕ)) → AreServed call.reading (row_of call asked).inputs all → (outcome : Outcome) (text : List ℕ)
      → Answers call outcome text → IsVerdict (row_of call asked).says all outcome (λ (t : List ℕ). t ≡ text)
  verdict_of all served outcome text answer =
      served_verdict call.reading (row_of call asked).inputs (row_of call asked).says all outcome text (reply_of call asked is outcome text answer) served

-- ---- two libraries that fit

-- the bytes of the inputs: of the libraries, and no rules
abbrev pub all_bytes : List ℕ → List ℕ → List (List ℕ)
all_bytes old new = old ∷ new ∷ [] ∷ []

module _ (call : Call) (old new : List ℕ) (fits : FitsInMemory old new) (unheard : call.voices ≡ []) (is : arguments_by call.words ≡ request this_check) where
  pub are_served : rule_fault [] ≡ None → call.reading.told (codes "old") ≡ Some old → call.reading.told (codes "new") ≡ Some new
      → ((name : List ℕ) → Rose (call.reading.before name) (call.reading.after name) → ⊥) → AreServed call.reading (row_of call this_check).inputs (all_bytes old new)
  are_served no_rules old_told new_told unfailed =
      let old_served : IsServed call.reading (library_at Old (named (codes "old"))) old = record { told = old_told; short = fits.old_short; faultless = fits.old_readable; unfailed = unfailed (codes "old") } in
      let new_served : IsServed call.reading (library_at New (named (codes "new"))) new = record { told = new_told; short = fits.new_short; faultless = fits.new_readable; unfailed = unfailed (codes "new") } in
      let rules_served : IsServed call.reading (rules_at None) [] = record { told = refl; short = omega arith; faultless = no_rules; unfailed = tt } in
      (old_served, (new_served, (rules_served, tt)))

  pub asks_for_told : call.reading.told (codes "old") ≡ Some old → call.reading.told (codes "new") ≡ Some new → AsksForTold call
  asks_for_told old_told new_told = λ asked other.
      let same : this_check ≡ asked = cc in
      subst (λ (a : PlainRequest). AreTold call.reading.told (places_of (row_of call a).inputs)) same
      (subst (λ (o : Option (List ℕ)). IsSome o) (sym old_told) refl, (subst (λ (o : Option (List ℕ)). IsSome o) (sym new_told) refl, (refl, tt)))

  said : (v : Verdict) (untyped : Option Remark) (text : List ℕ) → check_says (wanted_voices Text call.voices) (all_bytes old new) v untyped text → CheckSays [] old new [] v text × (untyped ≡ Some (remark_on old new))
  said v untyped text says = subst (λ (voices : List Voice). CheckSays (wanted_voices Text voices) old new [] v text × (untyped ≡ Some (remark_on old new))) unheard says

  module _ (served : AreServed call.reading (row_of call this_check).inputs (all_bytes old new)) where
    pub has_room : HasRoom call sink_room
    has_room outcome text answer =
        let on = verdict_of call this_check is (all_bytes old new) served outcome text answer in
        subst (λ (t : List ℕ). length t ≤ sink_room) on.holds (fits.room on.verdict on.text (said on.verdict on.untyped on.text on.said).0)

-- ---- which verdict it is

-- the verdict with what is not judged of the libraries
abbrev pub with_remark : List ℕ → List ℕ → Verdict → Outcome
with_remark old new v = Judged v (Some (remark_on old new))

yes_is_no : (old new : List ℕ) → with_remark old new Yes ≡ with_remark old new No → ⊥
yes_is_no old new same = cc

-- yes and no come exactly where they should
abbrev pub IsExact : List ℕ → List ℕ → Outcome → Type 0
IsExact old new outcome = ((outcome ≡ with_remark old new Yes) ↔ Compatible old new []) × ((outcome ≡ with_remark old new No) ↔ (Compatible old new [] → ⊥))

module _ (old new : List ℕ) where
  by_verdict : (v : Verdict) (text : List ℕ) → CheckSays [] old new [] v text → IsExact old new (with_remark old new v)
  by_verdict Yes text says = (
    (λ _. says.0, λ _. refl),
    (λ same. absurd (yes_is_no old new same), λ not. absurd (not says.0)),
  )
  by_verdict No text says = (
    (λ same. absurd (yes_is_no old new (sym same)), λ compatible. absurd (says.0 compatible)),
    (λ _. says.0, λ _. refl),
  )
  by_verdict Refused text says = absurd says
  by_verdict Done text says = absurd says

is_exact : (call : Call) (old new : List ℕ) (fits : FitsInMemory old new) (unheard : call.voices ≡ []) (is : arguments_by call.words ≡ request this_check)
    (outcome : Outcome) (P : List ℕ → Type 0) → IsVerdict (row_of call this_check).says (all_bytes old new) outcome P → IsExact old new outcome
is_exact call old new fits unheard is outcome P on =
    let says = said call old new fits unheard is on.verdict on.untyped on.text on.said in
    let same : with_remark old new on.verdict ≡ outcome = ap (λ (u : Option Remark). Judged on.verdict u) (sym says.1) ∙ sym on.is in
    subst (λ (o : Outcome). IsExact old new o) same (by_verdict old new on.verdict on.text says.0)

-- ---- what a run promises, put together

module _ {I L : Type 0} (told : I → List ℕ → Option (List ℕ)) (faults : I → List ℕ → ℕ) (given started : I → ℕ) (voice : L → Voice) (listeners : List L)
    (words : List (List ℕ)) (first last : I) (old new : List ℕ) (outcome : Outcome) (P : List ℕ → Type 0) (before after : ℕ) where
  abbrev pub the_call : Call
  the_call = record { words = words; voices = map voice listeners; reading = reading_of told faults given started first last }

  -- the clause on right words, readable inputs, and devices that did not fail
  abbrev pub IsComplete : Type 0
  IsComplete = (asked : PlainRequest) (all : List (List ℕ)) → arguments_by words ≡ request asked → AreServed the_call.reading (row_of the_call asked).inputs all
      → (Rose before after → ⊥) → (IsNoMemory outcome → ⊥) → IsVerdict (row_of the_call asked).says all outcome P

  pub exact : IsComplete → (AsksForTold the_call → SameCounts (faults first) (faults last)) → (HasRoom the_call sink_room → after ≡ before)
      → listeners ≡ [] → arguments_by words ≡ request this_check → rule_fault [] ≡ None
      → told first (codes "old") ≡ Some old → told first (codes "new") ≡ Some new → ((name : List ℕ) → faults first name ≡ 0) → before ≡ 0
      → (IsNoMemory outcome → ⊥) → FitsInMemory old new → IsExact old new outcome
  exact complete steady steady_sink none_heard is no_rules old_told new_told none none_of_sink memory fits =
      let unheard : map voice listeners ≡ [] = ap (λ (l : List L). map voice l) none_heard in
      let same = steady (asks_for_told the_call old new fits unheard is old_told new_told) in
      let served = are_served the_call old new fits unheard is no_rules old_told new_told (λ name. not_risen (faults first name) (faults last name) (none name) (same name)) in
      let still = steady_sink (has_room the_call old new fits unheard is served) in
      is_exact the_call old new fits unheard is outcome P (complete this_check (all_bytes old new) is served (not_risen before after none_of_sink still) memory)
