-- What `check` prints on yes is accepted by `verify`.
use Rattle.std.proofs.Common.{◌≡◌, ℕ, List, [], ◌∷◌, Option, Some, None, sym, ◌∙◌}
use Rattle.abi_base.specs.declared.remark.Remark.{Remark}
use Rattle.abi_top.specs.Answer.{row_of}
use Rattle.abi_top.specs.OneAnswer.{AcceptsWhatCheckPrints}
use Rattle.abi_top.proofs.lemmas.ParsedArguments.{reply_of}
use Rattle.cert_check.specs.declared.refused.Refused.{Refused as Refusal}
use Rattle.cli_args.specs.Commands.{PlainRequest, check, verify}
use Rattle.commands.specs.Commands.{asks_of}
use Rattle.commands.specs.Faults.{AreReadable, AreShort}
use Rattle.commands.specs.Served.{IsVerdict}
use Rattle.commands.specs.declared.outcome.Outcome.{Outcome}
use Rattle.commands.specs.declared.outcome.Outcome.TheVariants.{Judged}
use Rattle.commands.specs.declared.verdict.Verdict.{Verdict}
use Rattle.commands.specs.declared.verdict.Verdict.TheVariants as verdict
use Rattle.commands.proofs.lemmas.Single.{judged_alone, verdict_alone}
use Rattle.library_check.specs.Checks.{IsCertificateText}
use Rattle.library_check.specs.Rows.Verify.{VerifySays, verify_says}
use Rattle.library_check.specs.Text.{accepted_text}
use Rattle.library_check.specs.Verifications.{IsVerified, certificate_fault}

refused_is_accepted : (a : Refusal) → Some a ≡ None → ⊥
refused_is_accepted a is = cc

-- the verdict of `verify` on a certificate of which nothing else can be said
accepted_alone : (old new rules certificate : List ℕ) → ((one : Option Refusal) → IsVerified old new rules certificate one → one ≡ None)
    → (outcome : Outcome) (answer : List ℕ) → IsVerdict verify_says (old ∷ new ∷ rules ∷ certificate ∷ []) outcome (λ (t : List ℕ). t ≡ answer)
    → (u : Option Remark) × (outcome ≡ Judged verdict.Yes u) × (answer ≡ accepted_text)
accepted_alone old new rules certificate alone outcome answer on = of on.verdict on.is on.said.0
  where
    of : (v : Verdict) → outcome ≡ Judged v on.untyped → VerifySays old new rules certificate v on.text → (u : Option Remark) × (outcome ≡ Judged verdict.Yes u) × (answer ≡ accepted_text)
    of verdict.Yes is said = (on.untyped, is, sym on.holds ∙ said.3)
    of verdict.Refused is said = absurd (refused_is_accepted said.0 (alone (Some said.0) said.1))
    of verdict.No is said = absurd said
    of verdict.Done is said = absurd said

pub accepts_what_check_prints : ((old new rules text : List ℕ) → IsCertificateText old new rules text → certificate_fault text ≡ None)
    → ((old new rules text : List ℕ) (one : Option Refusal) → IsCertificateText old new rules text → IsVerified old new rules text one → one ≡ None)
    → AcceptsWhatCheckPrints
accepts_what_check_prints whole alone call other rules_name report old_name new_name certificate_name old new rules text untyped is tells printed short other_is other_tells outcome answer no_fault answers =
    let asked : PlainRequest = check rules_name report old_name new_name in
    let again : PlainRequest = verify rules_name old_name new_name certificate_name in
    let on = judged_alone call.reading (row_of call asked).inputs (row_of call asked).says (old ∷ new ∷ rules ∷ []) tells verdict.Yes untyped text (reply_of call asked is (Judged verdict.Yes untyped) text printed) in
    let shorts : AreShort (old ∷ new ∷ rules ∷ text ∷ []) = (on.0.0, (on.0.1.0, (on.0.1.1.0, (short, tt)))) in
    let readable : AreReadable (asks_of (row_of other again).inputs) (old ∷ new ∷ rules ∷ text ∷ []) = (on.1.0, (on.1.1.0, (on.1.1.1.0, (whole old new rules text on.2.0.1, tt)))) in
    accepted_alone old new rules text (λ one. alone old new rules text one on.2.0.1) outcome answer
    (verdict_alone other.reading (row_of other again).inputs (row_of other again).says (old ∷ new ∷ rules ∷ text ∷ []) other_tells shorts readable outcome answer no_fault (reply_of other again other_is outcome answer answers))
