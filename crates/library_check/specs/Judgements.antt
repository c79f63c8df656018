-- What `check` says about two libraries after they are read.
use Rattle.std.specs.Prelude.{◌≡◌, ℕ, List, [], ◌∷◌, codes}
use Rattle.std.specs.List.{concat}
use Rattle.abi_types.specs.Libraries.{PlainLibrary}
use Rattle.report.specs.declared.row.Row.{Row}
use Rattle.report.specs.Listening.{Reports, Voice}
use Rattle.report.specs.Render.{newline}
use Rattle.cert_check.specs.Compatible.{Sides, sides, IsCompatible}
use Rattle.cert_text.specs.Certs.{PlainCert}
use Rattle.cert_text.specs.Grammar.{IsSpelled}
use Rattle.commands.specs.declared.verdict.Verdict.{Verdict}
use Rattle.commands.specs.declared.verdict.Verdict.TheVariants.{Yes, No, Refused, Done}
use Rattle.pair_compare.specs.Judged.{IsProved, IsRefuted}
use Rattle.suppression_text.specs.Rules.{PlainRules}
use Rattle.suppressions.specs.Marks.{marks_of}

-- two libraries, where a rule file decides what is not compared
abbrev pub ruled : PlainLibrary → PlainLibrary → PlainRules → Sides
ruled old new rules = sides old new (marks_of rules old)

-- The text of a yes spells the certificate of the two libraries, which a checker accepts.
pub record IsCertificate (s : Sides) (text : List ℕ) : Type 0 where
  pub cert : PlainCert
  pub proved : IsProved s cert
  pub spelled : IsSpelled text cert

-- the line `no`, followed by the texts of listeners with these voices
pub record IsReport (voices : List Voice) (rows : List Row) (text : List ℕ) : Type 0 where
  pub texts : List (List ℕ)
  pub heard : Reports voices rows texts
  pub is : text ≡ concat (codes "no" ∷ newline ∷ concat texts ∷ [])

-- The text of a no is printed from a right report, which has at least one row.
pub record IsRefusal (voices : List Voice) (s : Sides) (text : List ℕ) : Type 0 where
  pub rows : List Row
  pub refuted : IsRefuted s rows
  pub report : IsReport voices rows text

-- what `check` says about two libraries and a rule file, with listeners of these voices
abbrev pub IsJudged : List Voice → PlainLibrary → PlainLibrary → PlainRules → Verdict → List ℕ → Type 0
IsJudged voices old new rules Yes text = IsCompatible (ruled old new rules) × IsCertificate (ruled old new rules) text
IsJudged voices old new rules No text = (IsCompatible (ruled old new rules) → ⊥) × IsRefusal voices (ruled old new rules) text
IsJudged voices old new rules Refused text = ⊥
IsJudged voices old new rules Done text = ⊥
