-- What a trial of n functions prints: what `check` says about the two libraries made of them, with an empty rule file.
use Rattle.std.specs.Prelude.{◌≡◌, ◌⊎◌, ℕ, List, [], ◌∷◌, length, codes}
use Rattle.trial_libraries.specs.declared.making.Side.TheVariants.{Old, New}
use Rattle.trial_libraries.specs.Libraries.{library}
use Rattle.report.specs.Listening.{Voice, styled}
use Rattle.report.specs.declared.style.Style.TheVariants.{Text}
use Rattle.commands.specs.Faults.{AreReadable}
use Rattle.library_read.specs.Libraries.{library_of}
use Rattle.library_check.specs.Checks.{Compatible, IsCertificateText, IsReportText}
use Rattle.library_check.specs.Inputs.{pair_asks}
use Rattle.library_check.specs.trial.Summaries.{summary_of}

-- the libraries of the trial
abbrev pub old_library : ℕ → List ℕ
old_library n = library n Old

abbrev pub new_library : ℕ → List ℕ
new_library n = library n New

-- the number of exports of the old library
abbrev pub export_count : ℕ → ℕ
export_count n = length (library_of (old_library n)).exports

-- a yes: the lines summarize the certificate that `check` prints
pub record IsYesText (n : ℕ) (lines : List ℕ) : Type 0 where
  pub certificate : List ℕ
  pub compatible : Compatible (old_library n) (new_library n) []
  pub printed : IsCertificateText (old_library n) (new_library n) [] certificate
  pub is : lines ≡ summary_of n (codes "yes") (export_count n) certificate

-- the one listener that hears the breaks: it makes a line of each
abbrev pub trial_voices : List Voice
trial_voices = styled Text ∷ []

-- a no: the lines summarize the report that `check` prints, with one listener of the style `text`
pub record IsNoText (n : ℕ) (lines : List ℕ) : Type 0 where
  pub report : List ℕ
  pub incompatible : Compatible (old_library n) (new_library n) [] → ⊥
  pub printed : IsReportText trial_voices (old_library n) (new_library n) [] report
  pub is : lines ≡ summary_of n (codes "no") (export_count n) report

-- what is said about the two libraries
abbrev pub IsSaid : ℕ → List ℕ → Type 0
IsSaid n lines = IsYesText n lines ⊎ IsNoText n lines

-- the libraries of the trial are readable, and these are its lines
pub record IsTrialText (n : ℕ) (lines : List ℕ) : Type 0 where
  pub readable : AreReadable pair_asks (old_library n ∷ new_library n ∷ [])
  pub said : IsSaid n lines
