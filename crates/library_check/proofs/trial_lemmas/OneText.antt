-- A trial has one text.
use Rattle.std.proofs.Common.{◌≡◌, ◌≤◌, ℕ, List, [], ◌∷◌, length, codes, inl, inr, sym, ap, ◌∙◌}
use Rattle.abi_base.specs.Limits.{input_limit}
use Rattle.trial_libraries.specs.declared.making.Side.{Side}
use Rattle.trial_libraries.specs.declared.making.Side.TheVariants.{Old, New}
use Rattle.trial_libraries.specs.Libraries.{library}
use Rattle.commands.specs.Faults.{AreReadable}
use Rattle.library_check.specs.Checks.{IsCertificateText, IsReportText}
use Rattle.library_check.specs.Inputs.{check_asks}
use Rattle.library_check.specs.trial.Summaries.{summary_of}
use Rattle.library_check.specs.trial.Trials.{IsNoText, IsSaid, IsTrialText, IsYesText, export_count, new_library, old_library, trial_voices}
use Rattle.library_check.proofs.Empty.{no_fault}

-- What `check` prints of two libraries that may be inputs is one text.
pub record HasOneText : Type 0 where
  pub certificate : (old new rules text other : List ℕ) → length old ≤ input_limit → length new ≤ input_limit → AreReadable check_asks (old ∷ new ∷ rules ∷ [])
      → IsCertificateText old new rules text → IsCertificateText old new rules other → text ≡ other
  pub report : (old new rules text other : List ℕ) → length old ≤ input_limit → length new ≤ input_limit → AreReadable check_asks (old ∷ new ∷ rules ∷ [])
      → IsReportText trial_voices old new rules text → IsReportText trial_voices old new rules other → text ≡ other

one_yes : (n : ℕ) (lines other : List ℕ) → HasOneText → ((side : Side) → length (library n side) ≤ input_limit)
    → AreReadable check_asks (old_library n ∷ new_library n ∷ [] ∷ []) → IsYesText n lines → IsYesText n other → lines ≡ other
one_yes n lines other one short readable a b =
    let text = one.certificate (old_library n) (new_library n) [] a.certificate b.certificate (short Old) (short New) readable a.printed b.printed in
    a.is ∙ ap (summary_of n (codes "yes") (export_count n)) text ∙ sym b.is

one_no : (n : ℕ) (lines other : List ℕ) → HasOneText → ((side : Side) → length (library n side) ≤ input_limit)
    → AreReadable check_asks (old_library n ∷ new_library n ∷ [] ∷ []) → IsNoText n lines → IsNoText n other → lines ≡ other
one_no n lines other one short readable a b =
    let text = one.report (old_library n) (new_library n) [] a.report b.report (short Old) (short New) readable a.printed b.printed in
    a.is ∙ ap (summary_of n (codes "no") (export_count n)) text ∙ sym b.is

one_said : (n : ℕ) (lines other : List ℕ) → HasOneText → ((side : Side) → length (library n side) ≤ input_limit)
    → AreReadable check_asks (old_library n ∷ new_library n ∷ [] ∷ []) → IsSaid n lines → IsSaid n other → lines ≡ other
one_said n lines other one short readable (inl a) (inl b) = one_yes n lines other one short readable a b
one_said n lines other one short readable (inr a) (inr b) = one_no n lines other one short readable a b
one_said n lines other one short readable (inl a) (inr b) = absurd (b.incompatible a.compatible)
one_said n lines other one short readable (inr a) (inl b) = absurd (a.incompatible b.compatible)

pub one_text : (n : ℕ) (lines other : List ℕ) → HasOneText → ((side : Side) → length (library n side) ≤ input_limit)
    → IsTrialText n lines → IsTrialText n other → lines ≡ other
one_text n lines other one short a b = one_said n lines other one short (a.readable.0, (a.readable.1.0, (no_fault, tt))) a.said b.said
