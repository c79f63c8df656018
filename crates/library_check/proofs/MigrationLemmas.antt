-- What is said of a certificate of version 1 for libraries and a rule file that were read holds of their bytes and of its text, and
-- is one thing.
use Rattle.std.proofs.Common.{◌≡◌, ℕ, List, [], ◌∷◌, Option, None, refl, sym, ◌∙◌, ap, subst}
use Rattle.abi_base.specs.declared.remark.Remark.{Remark}
use Rattle.abi_types.specs.Libraries.{PlainLibrary}
use Rattle.cert_check.specs.Accepted.{IsAccepted}
use Rattle.cert_check.specs.Compatible.{Sides}
use Rattle.cert_check.specs.FirstVersion.{migrated_case}
use Rattle.cert_check.specs.declared.refused.Refused.{Refused}
use Rattle.cert_text.specs.Certs.{PlainCert1, migrated}
use Rattle.cert_text.specs.Grammar.{IsSpelled1, text_of}
use Rattle.cert_text.specs.declared.line.Version.TheVariants.{Two}
use Rattle.commands.specs.declared.verdict.Verdict.{Verdict}
use Rattle.commands.specs.declared.verdict.Verdict.TheVariants as verdict
use Rattle.library_read.specs.Libraries.{library_of}
use Rattle.suppression_text.specs.Rules.{PlainRules, rules_of}
use Rattle.library_check.specs.Checks.{sides_of}
use Rattle.library_check.specs.Judgements.{ruled}
use Rattle.library_check.specs.Migrations.{IsMigratedBy, IsMigration, IsUnmigratedBy}
use Rattle.library_check.specs.Rows.Migrate.{MigrateSays, migrate_says}
use Rattle.library_check.specs.Text.{refused_text}
use Rattle.library_check.specs.Verifications.{IsAcceptance, IsFirstRefusal}
use Rattle.library_check.proofs.Verdicts.{FailsOnce, not_both, refused_once}

-- ---- bytes

of_text : (old new rules certificate : List ℕ) (cert : PlainCert1) (v : Verdict) (text : List ℕ) → IsSpelled1 certificate cert → IsMigration (sides_of old new rules) cert v text → MigrateSays old new rules certificate v text
of_text old new rules certificate cert verdict.Done text spelled is = (is.0, record { cert = cert; spelled = spelled; accepted = is.1; becomes = is.2 })
of_text old new rules certificate cert verdict.Refused text spelled is = (is.0, record { cert = cert; spelled = spelled; fails = is.1 }, is.2)
of_text old new rules certificate cert verdict.Yes text spelled is = is
of_text old new rules certificate cert verdict.No text spelled is = is

pub of_texts : (old new rules certificate : List ℕ) (old_library new_library : PlainLibrary) (read : PlainRules) (cert : PlainCert1) (v : Verdict) (untyped : Option Remark) (text : List ℕ)
    → old_library ≡ library_of old → new_library ≡ library_of new → read ≡ rules_of rules → IsSpelled1 certificate cert
    → IsMigration (ruled old_library new_library read) cert v text → untyped ≡ None → migrate_says (old ∷ new ∷ rules ∷ certificate ∷ []) v untyped text
of_texts old new rules certificate old_library new_library read cert v untyped text old_is new_is rules_is spelled is unremarked =
    let one = subst (λ (l : PlainLibrary). IsMigration (ruled l new_library read) cert v text) old_is is in
    let two = subst (λ (l : PlainLibrary). IsMigration (ruled (library_of old) l read) cert v text) new_is one in
    let three = subst (λ (r : PlainRules). IsMigration (ruled (library_of old) (library_of new) r) cert v text) rules_is two in
    (of_text old new rules certificate cert v text spelled three, unremarked)

-- ---- one answer

-- a text is that of at most one certificate of version 1
abbrev pub AreOneCertificate1 : Type 0
AreOneCertificate1 = (bytes : List ℕ) (c d : PlainCert1) → IsSpelled1 bytes c → IsSpelled1 bytes d → c ≡ d

pub accepted : (s : Sides) (certificate text : List ℕ) → IsMigratedBy s certificate text → IsAcceptance s text
accepted s certificate text is = record { cert = migrated is.cert; spelled = is.becomes; accepted = is.accepted }

module _ (one_text : AreOneCertificate1) (s : Sides) (certificate : List ℕ) where
  pub one_migrated : (text other : List ℕ) → IsMigratedBy s certificate text → IsMigratedBy s certificate other → text ≡ other
  one_migrated text other one two =
      one.becomes.is ∙ ap (λ (c : PlainCert1). text_of Two (migrated c)) (one_text certificate one.cert two.cert one.spelled two.spelled) ∙ sym two.becomes.is

  pub one_unmigrated : FailsOnce → (refusal another : Refused) → IsUnmigratedBy s certificate refusal → IsUnmigratedBy s certificate another → refusal ≡ another
  one_unmigrated once refusal another one other =
      let same : one.cert ≡ other.cert = one_text certificate one.cert other.cert one.spelled other.spelled in
      refused_once once (migrated_case s other.cert) refusal another (subst (λ (c : PlainCert1). IsFirstRefusal (migrated_case s c) refusal) same one.fails) other.fails

  pub apart : (text : List ℕ) (refusal : Refused) → IsMigratedBy s certificate text → IsUnmigratedBy s certificate refusal → ⊥
  apart text refusal one other =
      let same : one.cert ≡ other.cert = one_text certificate one.cert other.cert one.spelled other.spelled in
      not_both (migrated_case s other.cert) refusal (subst (λ (c : PlainCert1). IsAccepted (migrated_case s c)) same one.accepted) other.fails

  -- a certificate whose migrated one is accepted is not refused
  pub unrefused : (cert : PlainCert1) (refusal : Refused) → IsSpelled1 certificate cert → IsAccepted (migrated_case s cert) → IsUnmigratedBy s certificate refusal → ⊥
  unrefused cert refusal spelled is other =
      let same : cert ≡ other.cert = one_text certificate cert other.cert spelled other.spelled in
      not_both (migrated_case s other.cert) refusal (subst (λ (c : PlainCert1). IsAccepted (migrated_case s c)) same is) other.fails

module _ (one_text : AreOneCertificate1) (once : FailsOnce) (old new rules certificate : List ℕ) where
  pub one_answer : (v w : Verdict) (text other : List ℕ) → MigrateSays old new rules certificate v text → MigrateSays old new rules certificate w other → (v ≡ w) × (text ≡ other)
  one_answer verdict.Done verdict.Done text other one two = (refl, one_migrated one_text (sides_of old new rules) certificate text other one.1 two.1)
  one_answer verdict.Done verdict.Refused text other one two = absurd (apart one_text (sides_of old new rules) certificate text two.0 one.1 two.1)
  one_answer verdict.Refused verdict.Done text other one two = absurd (apart one_text (sides_of old new rules) certificate other one.0 two.1 one.1)
  one_answer verdict.Refused verdict.Refused text other one two =
      (refl, one.2 ∙ ap refused_text (one_unmigrated one_text (sides_of old new rules) certificate once one.0 two.0 one.1 two.1) ∙ sym two.2)
  one_answer verdict.Done verdict.Yes text other one two = absurd two
  one_answer verdict.Done verdict.No text other one two = absurd two
  one_answer verdict.Refused verdict.Yes text other one two = absurd two
  one_answer verdict.Refused verdict.No text other one two = absurd two
  one_answer verdict.Yes w text other one two = absurd one
  one_answer verdict.No w text other one two = absurd one
