-- From what a run promises on no to the breaks of its document.
use Rattle.std.proofs.Common.{◌≡◌, ℕ, List, [], ◌∷◌, ◌++◌, map, drop, Option, Some, ap, sym, subst, ◌∙◌, inl, inr}
use Rattle.std.specs.Prelude.{◌⊎◌, codes}
use Rattle.std.specs.List.{concat}
use Rattle.std.specs.Io.KnownBytes.{Appends}
use Rattle.std.proofs.lemmas.List.{append-nil}
use Rattle.abi_base.specs.declared.remark.Remark.{Remark}
use Rattle.abi_top.specs.Calls.{Call}
use Rattle.abi_top.specs.Rows.App.{OnApp}
use Rattle.abi_top.specs.Rows.Check.{OnCheck}
use Rattle.cert_check.specs.Compatible.{Sides}
use Rattle.library_check.specs.Applications.{IsAppReportText, IsCompatibleFor, sides_for}
use Rattle.library_check.specs.Checks.{Compatible, IsReportText, sides_of}
use Rattle.library_check.specs.Judgements.{IsRefusal, IsReport}
use Rattle.library_check.specs.Remarks.{remark_on}
use Rattle.report.specs.Listening.{Reports, Voice}
use Rattle.report.specs.declared.row.Row.{Row}
use Rattle.report.specs.declared.styles.report_option.ReportStyle.{ReportStyle}
use Rattle.report.specs.declared.styles.report_option.ReportStyle.TheVariants.{Own}
use Rattle.report.specs.styles.Wanted.{wanted_voices}
use Rattle.json_report.specs.Breaks.{breaks_text, json_voice, with_member}
use Rattle.commands.specs.declared.outcome.Outcome.{Outcome}
use Rattle.commands.specs.declared.outcome.Outcome.TheVariants as outcome
use Rattle.commands.specs.declared.verdict.Verdict.TheVariants as verdict
use Rattle.abi_json.specs.Documents.{HasBreaks, IsDocument, TellsBreaks, breaks_of, unclosed}

-- what this listener alone makes of rows
one_text : (rows : List Row) (texts : List (List ℕ)) → Reports (json_voice ∷ []) rows texts → concat texts ≡ breaks_text rows
one_text rows [] none = absurd none
one_text rows (text ∷ []) (said, rest) = append-nil text ∙ said.made
one_text rows (text ∷ other ∷ texts) (said, rest) = absurd rest

-- it stands behind the line `no`
behind_no : (rows : List Row) (text : List ℕ) → IsReport (json_voice ∷ []) rows text → drop 3 text ≡ breaks_text rows
behind_no rows text report = ap (drop 3) report.is ∙ append-nil (concat report.texts) ∙ one_text rows report.texts report.heard

-- the document ends with what stands behind three bytes of a text
abbrev pub EndsWith : List ℕ → List ℕ → Type 0
EndsWith text document = (opened : List ℕ) × (document ≡ with_member opened (codes "breaks") (drop 3 text))

has_breaks : (s : Sides) (text document : List ℕ) → IsRefusal (json_voice ∷ []) s text → EndsWith text document → HasBreaks s document
has_breaks s text document refusal (opened, is) = record {
  rows = refusal.rows;
  refuted = refusal.refuted;
  opened = opened;
  is = is ∙ ap (with_member opened (codes "breaks")) (behind_no refusal.rows text refusal.report);
}

-- what a sink that held nothing holds now
appended : (before after : Option (List ℕ)) (held text : List ℕ) → before ≡ Some [] → after ≡ Some held → Appends before after text → held ≡ text
appended before after held text nothing now appends =
    let at_now : Appends before (Some held) text = subst (λ (o : Option (List ℕ)). Appends before o text) now appends in
    let from_nothing : Appends (Some []) (Some held) text = subst (λ (o : Option (List ℕ)). Appends o (Some held) text) nothing at_now in
    from_nothing

-- with the style `own` this listener hears the report, alone
refusal_here : (report : ReportStyle) (voices : List Voice) (s : Sides) (held text : List ℕ) → report ≡ Own → voices ≡ json_voice ∷ [] → held ≡ text → IsRefusal (wanted_voices report voices) s text → IsRefusal (json_voice ∷ []) s held
refusal_here report voices s held text own alone is refusal =
    let heard : wanted_voices report voices ≡ json_voice ∷ [] = ap (λ (r : ReportStyle). wanted_voices r voices) own ∙ ap (λ (vs : List Voice). wanted_voices Own vs) alone in
    subst (λ (t : List ℕ). IsRefusal (json_voice ∷ []) s t) (sym is) (subst (λ (vs : List Voice). IsRefusal vs s text) heard refusal)

-- the clause of `run`
abbrev pub SaysNo : Call → Option (List ℕ) → Option (List ℕ) → Option Remark → Type 0
SaysNo call before after untyped =
    OnCheck call (λ report old new rules. (Compatible old new rules → ⊥) × (untyped ≡ Some (remark_on old new)) × (text : List ℕ) × IsReportText (wanted_voices report call.voices) old new rules text × Appends before after text)
    ⊎ OnApp call (λ report program old new rules. (IsCompatibleFor program old new rules → ⊥) × (untyped ≡ Some (remark_on old new)) × (text : List ℕ) × IsAppReportText (wanted_voices report call.voices) program old new rules text × Appends before after text)

-- with this listener alone
pub tells : (call : Call) → call.voices ≡ json_voice ∷ [] → (before after : Option (List ℕ)) (held document : List ℕ) (untyped : Option Remark) → before ≡ Some [] → after ≡ Some held → EndsWith held document → SaysNo call before after untyped
    → TellsBreaks call document
tells call alone before after held document untyped nothing now ends (inl (rules_name, report, old_name, new_name, old, new, rules, reads, says)) =
    inl (
      rules_name,
      report,
      old_name,
      new_name,
      old,
      new,
      rules,
      reads,
      λ own.
          has_breaks (sides_of old new rules) held document (refusal_here report call.voices (sides_of old new rules) held says.2 own alone (appended before after held says.2 nothing now says.4) says.3) ends,
    )
tells call alone before after held document untyped nothing now ends (inr (rules_name, report, app_name, old_name, new_name, program, old, new, rules, reads, says)) =
    inr (
      rules_name,
      report,
      app_name,
      old_name,
      new_name,
      program,
      old,
      new,
      rules,
      reads,
      λ own.
          has_breaks (sides_for program old new rules) held document (refusal_here report call.voices (sides_for program old new rules) held says.2 own alone (appended before after held says.2 nothing now says.4) says.3) ends,
    )

-- the voices of a list that a listener was put into
pub only_voice : {B : Type 0} (voice : B → Voice) (old new : List B) (b : B) → old ≡ [] → new ≡ old ++ b ∷ [] → voice b ≡ json_voice → map voice new ≡ json_voice ∷ []
only_voice {B = B} voice old new b none added is = ap (map voice) (added ∙ ap (λ (l : List B). l ++ b ∷ []) none) ∙ ap (λ (v : Voice). v ∷ []) is

-- The clause of a run with this listener alone, and the document of its text.
pub told : (call_with : List Voice → Call) (voices : List Voice) → ((v : List Voice) → (call_with v).voices ≡ v) → voices ≡ json_voice ∷ []
    → (before after : Option (List ℕ)) (held document : List ℕ) (untyped : Option Remark) → before ≡ Some [] → after ≡ Some held
    → EndsWith held document → SaysNo (call_with voices) before after untyped → TellsBreaks (call_with (json_voice ∷ [])) document
told call_with voices are alone before after held document untyped nothing now ends says =
    tells (call_with (json_voice ∷ [])) (are (json_voice ∷ [])) before after held document untyped nothing now ends
    (subst (λ (v : List Voice). SaysNo (call_with v) before after untyped) alone says)

-- on no the document ends with what stands behind the line `no`
pub ends_with : (words : List (List ℕ)) (ended : Outcome) (untyped : Option Remark) (held document : List ℕ) → ended ≡ outcome.Judged verdict.No untyped → IsDocument words ended held document → EndsWith held document
ends_with words ended untyped held document ends is =
    (unclosed is.head_text, is.is ∙ ap (λ (o : Outcome). with_member (unclosed is.head_text) (codes "breaks") (breaks_of o held)) ends)

-- What is promised of the call with these voices and of what a sink that held nothing holds now, said of the call with this listener and
-- of the bytes that are held.
pub moved : (P : Call → Option (List ℕ) → Option (List ℕ) → Type 0) (call_with : List Voice → Call) (voices : List Voice) → voices ≡ json_voice ∷ []
    → (before after : Option (List ℕ)) (held : List ℕ) → before ≡ Some [] → after ≡ Some held
    → P (call_with voices) before after → P (call_with (json_voice ∷ [])) (Some []) (Some held)
moved P call_with voices alone before after held nothing now is =
    subst (λ (o : Option (List ℕ)). P (call_with (json_voice ∷ [])) (Some []) o) now
    (subst (λ (o : Option (List ℕ)). P (call_with (json_voice ∷ [])) o after) nothing (subst (λ (vs : List Voice). P (call_with vs) before after) alone is))
