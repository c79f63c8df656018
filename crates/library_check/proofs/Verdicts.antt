-- What is said of the text of a certificate is one thing.
use Rattle.std.proofs.Common.{◌≡◌, ℕ, List, [], ◌∷◌, ◌++◌, Option, Some, None, refl, sym, ◌∙◌, ap, subst}
use Rattle.std.specs.List.{AllByRecursion}
use Rattle.cert_check.specs.Accepted.{Case, Place, Keeps, IsAccepted, IsFirstFailing, places, refused}
use Rattle.cert_check.specs.Compatible.{Sides}
use Rattle.cert_check.specs.declared.refused.Refused.{Refused}
use Rattle.cert_text.specs.Certs.{PlainCert}
use Rattle.cert_text.specs.Grammar.{IsSpelled}
use Rattle.library_check.specs.Checks.{sides_of}
use Rattle.library_check.specs.Judgements.{IsCertificate}
use Rattle.library_check.specs.Verifications.{IsAcceptance, IsFirstRefusal, IsRejection, IsVerified, case_for}

-- a text is that of at most one certificate
abbrev pub AreOneCertificate : Type 0
AreOneCertificate = (bytes : List ℕ) (c d : PlainCert) → IsSpelled bytes c → IsSpelled bytes d → c ≡ d

-- at most one place is the first that fails
abbrev pub FailsOnce : Type 0
FailsOnce = (c : Case) (one other : Place) → IsFirstFailing c (places c) one → IsFirstFailing c (places c) other → one ≡ other

kept_within : (c : Case) (before : List Place) (place : Place) (after : List Place) → AllByRecursion (Keeps c) (before ++ place ∷ after) → Keeps c place
kept_within c [] place after all = all.0
kept_within c (p ∷ before) place after all = kept_within c before place after all.1

-- what is accepted is not refused
pub not_both : (c : Case) (refusal : Refused) → IsAccepted c → IsFirstRefusal c refusal → ⊥
not_both c refusal all is =
    let first = is.first in
    first.fails (kept_within c first.before is.place first.after (subst (AllByRecursion (Keeps c)) first.stands all))

-- it is refused for one condition
pub refused_once : FailsOnce → (c : Case) (refusal another : Refused) → IsFirstRefusal c refusal → IsFirstRefusal c another → refusal ≡ another
refused_once once c refusal another one other = one.is ∙ ap (refused c) (once c one.place other.place one.first other.first) ∙ sym other.is

module _ (one_text : AreOneCertificate) where
  -- a text that is accepted is not refused
  pub apart : (s : Sides) (text : List ℕ) (refusal : Refused) → IsAcceptance s text → IsRejection s text refusal → ⊥
  apart s text refusal one other =
      let same : one.cert ≡ other.cert = one_text text one.cert other.cert one.spelled other.spelled in
      not_both (case_for s other.cert) refusal (subst (λ (cert : PlainCert). IsAccepted (case_for s cert)) same one.accepted) other.fails

  -- it is refused for one condition
  pub one_refusal : FailsOnce → (s : Sides) (text : List ℕ) (refusal another : Refused) → IsRejection s text refusal → IsRejection s text another → refusal ≡ another
  one_refusal once s text refusal another one other =
      let same : one.cert ≡ other.cert = one_text text one.cert other.cert one.spelled other.spelled in
      refused_once once (case_for s other.cert) refusal another (subst (λ (cert : PlainCert). IsFirstRefusal (case_for s cert) refusal) same one.fails) other.fails

  pub one_answer : FailsOnce → (old new rules certificate : List ℕ) (one other : Option Refused) → IsVerified old new rules certificate one → IsVerified old new rules certificate other → one ≡ other
  one_answer once old new rules certificate None None one other = refl
  one_answer once old new rules certificate None (Some refusal) one other =
      absurd (apart (sides_of old new rules) certificate refusal one.1 other)
  one_answer once old new rules certificate (Some refusal) None one other =
      absurd (apart (sides_of old new rules) certificate refusal other.1 one)
  one_answer once old new rules certificate (Some refusal) (Some another) one other =
      ap Some (one_refusal once (sides_of old new rules) certificate refusal another one other)

-- ---- the text of a yes

pub accepted : (s : Sides) (text : List ℕ) → IsCertificate s text → IsAcceptance s text
accepted s text is = record { cert = is.cert; spelled = is.spelled; accepted = is.proved.accepted }
