-- The documents of runs.
use Rattle.std.specs.Prelude.{◌≡◌, ◌⊎◌, ◌-◌, ℕ, List, drop, take, length, codes}
use Rattle.abi_top.specs.Calls.{Call}
use Rattle.abi_top.specs.Rows.App.{OnApp}
use Rattle.abi_top.specs.Rows.Check.{OnCheck}
use Rattle.cert_check.specs.Compatible.{Sides}
use Rattle.commands.specs.Outcomes.{exit_number}
use Rattle.commands.specs.declared.outcome.Outcome.{Outcome}
use Rattle.commands.specs.declared.outcome.Outcome.TheVariants as outcome
use Rattle.commands.specs.declared.verdict.Verdict.TheVariants as verdict
use Rattle.document_head.specs.Heads.{HasMember, HasText, answer_word, command_word, fault_value, untyped_value}
use Rattle.json_report.specs.Breaks.{breaks_text, with_member}
use Rattle.library_check.specs.Applications.{sides_for}
use Rattle.library_check.specs.Checks.{sides_of}
use Rattle.pair_compare.specs.Judged.{IsRefuted}
use Rattle.report.specs.declared.row.Row.{Row}
use Rattle.report.specs.declared.styles.report_option.ReportStyle.TheVariants.{Own}
use Rattle.serde_json.specs.Data.{Data, number, string, unsigned}
use Rattle.serde_json.specs.Written.{IsInOrder}

-- The array of breaks: on no it is the text after the line `no`, which the listener made, byte by byte; else it is empty.
abbrev pub breaks_of : Outcome → List ℕ → List ℕ
breaks_of (outcome.Judged verdict.No remark) text = drop 3 text
breaks_of other text = codes "[]"

-- the text of an object without its closing brace: all bytes but the last
abbrev pub unclosed : List ℕ → List ℕ
unclosed text = take (length text - 1) text

-- The document of a run with these arguments that ended so, where `abi` would print the text: an object with these members, which has
-- the breaks as its last one.
pub record IsDocument (words : List (List ℕ)) (outcome : Outcome) (text document : List ℕ) : Type 0 where
  pub head : Data
  pub format : HasMember (codes "format") (number (unsigned 1)) head
  pub command : HasMember (codes "command") (string (command_word words)) head
  pub answer : HasMember (codes "answer") (string (answer_word outcome)) head
  pub status : HasMember (codes "status") (number (unsigned (exit_number outcome))) head
  pub fault : HasMember (codes "fault") (fault_value outcome) head
  pub untyped : HasMember (codes "untyped") (untyped_value outcome) head
  pub says : HasText outcome text head
  pub head_text : List ℕ
  pub in_order : IsInOrder head_text head
  pub is : document ≡ with_member (unclosed head_text) (codes "breaks") (breaks_of outcome text)

-- the document is that of a run where `abi` would print a text for which P holds
abbrev pub OnText : (words : List (List ℕ)) → Outcome → (document : List ℕ) → (List ℕ → Type 0) → Type 0
OnText words outcome document P = (text : List ℕ) × IsDocument words outcome text document × P text

-- the breaks of a document are the rows of the right report on two libraries, which has at least one
pub record HasBreaks (s : Sides) (document : List ℕ) : Type 0 where
  pub rows : List Row
  pub refuted : IsRefuted s rows
  pub opened : List ℕ
  pub is : document ≡ with_member opened (codes "breaks") (breaks_text rows)

-- The command is `check` or `app`, its inputs are readable, and with the style `own` the document has those breaks between the
-- two libraries that the rule file does not suppress; with `app` these are the breaks of exports that the application uses, and of
-- their types.
abbrev pub TellsBreaks : Call → List ℕ → Type 0
TellsBreaks call document =
    OnCheck call (λ report old new rules. report ≡ Own → HasBreaks (sides_of old new rules) document)
    ⊎ OnApp call (λ report program old new rules. report ≡ Own → HasBreaks (sides_for program old new rules) document)
