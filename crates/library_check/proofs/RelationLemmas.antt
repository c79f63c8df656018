-- What `check` prints on yes, and what `verify` accepts, tells a closed relation.
use Rattle.std.proofs.Common.{◌≡◌, ◌≤◌, ℕ, List, [], ◌∷◌, length, Option, Some, None, ◌∙◌, ap, subst}
use Rattle.abi_base.specs.Limits.{input_limit}
use Rattle.abi_base.specs.declared.remark.Remark.{Remark}
use Rattle.abi_types.specs.Libraries.{PlainLibrary}
use Rattle.cert_check.specs.declared.refused.Refused.{Refused}
use Rattle.commands.specs.Faults.{AreReadable}
use Rattle.commands.specs.declared.verdict.Verdict.{Verdict}
use Rattle.commands.specs.declared.verdict.Verdict.TheVariants as verdict
use Rattle.library_read.specs.Faults.{library_fault}
use Rattle.library_read.specs.Libraries.{library_of}
use Rattle.report.specs.Listening.{Voice}
use Rattle.suppression_text.specs.Rules.{PlainRules, rules_of}
use Rattle.library_check.specs.Checks.{sides_of}
use Rattle.library_check.specs.Inputs.{check_asks}
use Rattle.library_check.specs.Judgements.{IsJudged}
use Rattle.library_check.specs.Relations.{AcceptsSuchRelation, IsRelationText}
use Rattle.library_check.specs.Remarks.{remark_of}
use Rattle.library_check.specs.Rows.Check.{CheckSays, check_says}
use Rattle.library_check.specs.Verifications.{IsAcceptedText, IsVerified}
use Rattle.library_check.proofs.Verdicts.{accepted}

-- an accepted certificate tells such a relation
abbrev pub TellsRelation : Type 0
TellsRelation = (old new rules certificate : List ℕ) → length old ≤ input_limit → length new ≤ input_limit → library_fault old ≡ None → library_fault new ≡ None
    → IsAcceptedText old new rules certificate → IsRelationText old new rules certificate

-- what is said of libraries and a rule file that were read is said of their bytes
judged_by : (voices : List Voice) (old new rules : List ℕ) (old_library new_library : PlainLibrary) (read : PlainRules) (v : Verdict) (text : List ℕ)
    → old_library ≡ library_of old → new_library ≡ library_of new → read ≡ rules_of rules → IsJudged voices old_library new_library read v text → IsJudged voices (library_of old) (library_of new) (rules_of rules) v text
judged_by voices old new rules old_library new_library read v text old_is new_is rules_is is =
    let one = subst (λ (l : PlainLibrary). IsJudged voices l new_library read v text) old_is is in
    let two = subst (λ (l : PlainLibrary). IsJudged voices (library_of old) l read v text) new_is one in
    subst (λ (r : PlainRules). IsJudged voices (library_of old) (library_of new) r v text) rules_is two

module _ (tells : TellsRelation) (old new rules : List ℕ) (old_short : length old ≤ input_limit) (new_short : length new ≤ input_limit) (readable : AreReadable check_asks (old ∷ new ∷ rules ∷ [])) where
  said : (voices : List Voice) (v : Verdict) (text : List ℕ) → IsJudged voices (library_of old) (library_of new) (rules_of rules) v text → CheckSays voices old new rules v text
  said voices verdict.Yes text is = (is.0, is.1, tells old new rules text old_short new_short readable.0 readable.1.0 (accepted (sides_of old new rules) text is.1))
  said voices verdict.No text is = is
  said voices verdict.Refused text is = is
  said voices verdict.Done text is = is

  pub said_by : (voices : List Voice) (old_library new_library : PlainLibrary) (read : PlainRules) (v : Verdict) (untyped : Option Remark) (text : List ℕ)
      → old_library ≡ library_of old → new_library ≡ library_of new → read ≡ rules_of rules → IsJudged voices old_library new_library read v text → untyped ≡ Some (remark_of old_library new_library)
      → check_says voices (old ∷ new ∷ rules ∷ []) v untyped text
  said_by voices old_library new_library read v untyped text old_is new_is rules_is is remarked = (
    said voices v text (judged_by voices old new rules old_library new_library read v text old_is new_is rules_is is),
    remarked ∙ ap (λ (l : PlainLibrary). Some (remark_of l new_library)) old_is ∙ ap (λ (l : PlainLibrary). Some (remark_of (library_of old) l)) new_is,
  )

  pub accepted_by : (certificate : List ℕ) (said : Option Refused) → IsVerified old new rules certificate said → AcceptsSuchRelation old new rules certificate said
  accepted_by certificate None is = tells old new rules certificate old_short new_short readable.0 readable.1.0 is.1
  accepted_by certificate (Some refusal) is = tt
