-- The commands, a row for each: what the clauses of `run` say of its verdicts, and that it says one thing. What is so of one command
-- stands in a module of its own.
pub mod App
pub mod Check
pub mod Compose
pub mod Layout
pub mod Listings
pub mod Migrate
pub mod Trial
pub mod Verify
use Rattle.std.proofs.Common.{◌≡◌, ◌⊎◌, ◌≤◌, ℕ, List, [], ◌∷◌, length, Option, Some, None, sym, ◌∙◌, ap, subst, inl, inr, IfSome}
use Rattle.std.specs.Prelude.{◌↔◌}
use Rattle.abi_base.specs.Limits.{input_limit}
use Rattle.abi_base.specs.declared.remark.Remark.{Remark}
use Rattle.abi_top.specs.Answer.{Answers}
use Rattle.abi_top.specs.Calls.{Call}
use Rattle.abi_top.specs.OneAnswer.{AreTextsDecided}
use Rattle.abi_top.specs.Rows.{command_of}
use Rattle.abi_top.specs.Rows.App.{OnApp}
use Rattle.abi_top.specs.Rows.Check.{OnCheck}
use Rattle.abi_top.specs.Rows.Compose.{OnCompose}
use Rattle.abi_top.specs.Rows.Layout.{OnLayout}
use Rattle.abi_top.specs.Rows.Listings.{OnListing}
use Rattle.abi_top.specs.Rows.Migrate.{OnMigrate}
use Rattle.abi_top.specs.Rows.Trial.{OnTrial}
use Rattle.abi_top.specs.Rows.Verify.{OnVerify}
use Rattle.library_check.specs.Text.{accepted_text, refused_text}
use Rattle.abi_top.proofs.Rows.App.{HasOneApp, OfApp, app_says_one, of_app}
use Rattle.abi_top.proofs.Rows.Check.{HasOneCheck, OfCheck, check_says_one, of_check}
use Rattle.abi_top.proofs.Rows.Compose.{HasOneComposition, OfCompose, compose_says_one, composes_none, of_compose}
use Rattle.abi_top.proofs.Rows.Layout.{HasOneLayout, OfLayout, layout_says_one, of_layout}
use Rattle.abi_top.proofs.Rows.Listings.{OfEntries, OfExports, entries_says_one, exports_says_one, of_entries, of_exports}
use Rattle.abi_top.proofs.Rows.Migrate.{HasOneMigration, OfMigrate, migrate_says_one, of_migrate}
use Rattle.abi_top.proofs.Rows.Trial.{HasOneTrial, OfTrial, trial_says_one}
use Rattle.abi_top.proofs.Rows.Verify.{HasOneVerification, OfVerify, of_verify, verify_says_one}
use Rattle.cert_check.specs.declared.refused.Refused.{Refused as Refusal}
use Rattle.cli_args.specs.Commands.{PlainRequest, app, check, verify, entries, exports, trial, migrate, compose, layout}
use Rattle.cli_args.specs.ParsedArguments.{request, arguments_by}
use Rattle.commands.specs.OneReply.{SaysOne}
use Rattle.commands.specs.declared.outcome.Outcome.TheVariants.{Judged}
use Rattle.commands.specs.declared.verdict.Verdict.{Verdict}
use Rattle.commands.specs.declared.verdict.Verdict.TheVariants as verdict
use Rattle.library_read.specs.Faults.{library_fault}
use Rattle.library_check.specs.Applications.{AgreedFor, IsAppReportText, IsCompatibleFor, KeepsLeavesFor, uses_for}
use Rattle.library_check.specs.Checks.{Agreed, Compatible, IsCertificateText, IsReportText, KeepsLeaves}
use Rattle.library_check.specs.Compositions.{ComposesNone, IsComposedText}
use Rattle.library_check.specs.Migrations.{IsMigratedText, IsRefusedMigration}
use Rattle.library_check.specs.Relations.{IsRelationText}
use Rattle.library_check.specs.Remarks.{remark_on}
use Rattle.library_check.specs.Verifications.{IsAcceptedText, IsRefusedText}
use Rattle.library_layout.specs.Command.{no_tag_text}
use Rattle.library_layout.specs.Covers.{CoversEachBit}
use Rattle.library_layout.specs.Layouts.{HasNoTag, IsLayoutText}
use Rattle.report.specs.Listening.{Voice}
use Rattle.report.specs.declared.styles.report_option.ReportStyle.{ReportStyle}
use Rattle.report.specs.styles.Wanted.{wanted_voices}
use Rattle.trial_libraries.specs.Limits.{most_functions}

-- ---- a verdict is that of one of the commands

module _ (call : Call) (v : Verdict) (untyped : Option Remark) (text : List ℕ) where
  abbrev OfOne : Type 0
  OfOne =
      OfCheck call v untyped text
      ⊎ (OfVerify call v untyped text
      ⊎ (OfMigrate call v untyped text
      ⊎ (OfCompose call v untyped text
      ⊎ (OfLayout call v untyped text ⊎ (OfEntries call v untyped text ⊎ (OfExports call v untyped text ⊎ (OfTrial call v untyped text ⊎ OfApp call v untyped text)))))))

  of_command : Answers call (Judged v untyped) text → OfOne
  of_command (check rules_name report old_name new_name, is, (all, gives, (readable, said))) =
      inl (of_check call v untyped text rules_name report old_name new_name is all gives readable said)
  of_command (verify rules_name old_name new_name certificate_name, is, (all, gives, (readable, said))) =
      inr (inl (of_verify call v untyped text rules_name old_name new_name certificate_name is all gives readable said))
  of_command (migrate rules_name old_name new_name certificate_name, is, (all, gives, (readable, said))) =
      inr (inr (inl (of_migrate call v untyped text rules_name old_name new_name certificate_name is all gives readable said)))
  of_command (compose first_name middle_name last_name certificate1_name certificate2_name, is, (all, gives, (readable, said))) =
      inr (inr (inr (inl (of_compose call v untyped text first_name middle_name last_name certificate1_name certificate2_name is all gives readable said))))
  of_command (layout name tag, is, (all, gives, (readable, said))) = inr (inr (inr (inr (inl (of_layout call v untyped text name tag is all gives readable said)))))
  of_command (entries name, is, (all, gives, (readable, said))) = inr (inr (inr (inr (inr (inl (of_entries call v untyped text name is all gives readable said))))))
  of_command (exports name, is, (all, gives, (readable, said))) = inr (inr (inr (inr (inr (inr (inl (of_exports call v untyped text name is all gives readable said)))))))
  of_command (trial count, is, (all, gives, (readable, said))) = inr (inr (inr (inr (inr (inr (inr (inl (count, is, said))))))))
  of_command (app rules_name report app_name old_name new_name, is, (all, gives, (readable, said))) =
      inr (inr (inr (inr (inr (inr (inr (inr (of_app call v untyped text rules_name report app_name old_name new_name is all gives readable said))))))))

-- ---- what each verdict says

yes_is_done : verdict.Yes ≡ verdict.Done → ⊥
yes_is_done is = cc

no_is_done : verdict.No ≡ verdict.Done → ⊥
no_is_done is = cc

refused_is_done : verdict.Refused ≡ verdict.Done → ⊥
refused_is_done is = cc

module _ (call : Call) (untyped : Option Remark) (text : List ℕ) (A : List ℕ → Type 0) (appends : A text) where
  abbrev pub OnYes : Type 0
  OnYes =
      OnCheck call (λ report old new rules. Compatible old new rules × (untyped ≡ Some (remark_on old new)) × (t : List ℕ) × IsCertificateText old new rules t × IsRelationText old new rules t × A t)
      ⊎ (OnVerify call (λ old new rules certificate. IsAcceptedText old new rules certificate × Compatible old new rules × IsRelationText old new rules certificate × A accepted_text)
      ⊎ (OnCompose call (λ files. Compatible files.first files.last [] × (t : List ℕ) × IsComposedText files t × A t)
      ⊎ OnApp call (λ report program old new rules. IsCompatibleFor program old new rules × (untyped ≡ Some (remark_on old new)) × A (uses_for program old new rules))))

  pub yes_says : Answers call (Judged verdict.Yes untyped) text → OnYes
  yes_says answer = of (of_command call verdict.Yes untyped text answer)
    where
      of : OfOne call verdict.Yes untyped text → OnYes
      of (inl (rules_name, report, old_name, new_name, old, new, rules, reads, said)) =
          inl (rules_name, report, old_name, new_name, old, new, rules, reads, (said.0.0, said.1, text, said.0.1, said.0.2, appends))
      of (inr (inl (rules_name, old_name, new_name, certificate_name, old, new, rules, certificate, reads, said))) =
          inr (inl (rules_name, old_name, new_name, certificate_name, old, new, rules, certificate, reads, (said.0.1, said.0.0, said.0.2, subst A said.0.3 appends)))
      of (inr (inr (inl (rules_name, old_name, new_name, certificate_name, old, new, rules, certificate, reads, said)))) = absurd said.0
      of (inr (inr (inr (inl (first_name, middle_name, last_name, certificate1_name, certificate2_name, files, reads, said))))) =
          inr (inr (inl (first_name, middle_name, last_name, certificate1_name, certificate2_name, files, reads, (said.0.0, text, said.0.1, appends))))
      of (inr (inr (inr (inr (inl (name, tag, library, reads, said)))))) = absurd said.0
      of (inr (inr (inr (inr (inr (inl (name, library, reads, said))))))) = absurd (yes_is_done said.done)
      of (inr (inr (inr (inr (inr (inr (inl (name, library, reads, said)))))))) = absurd (yes_is_done said.done)
      of (inr (inr (inr (inr (inr (inr (inr (inl (count, is, said))))))))) = absurd (yes_is_done said.done)
      of (inr (inr (inr (inr (inr (inr (inr (inr (rules_name, report, app_name, old_name, new_name, program, old, new, rules, reads, said))))))))) =
          inr (inr (inr (rules_name, report, app_name, old_name, new_name, program, old, new, rules, reads, (said.0.0, said.1, subst A said.0.1 appends))))

  abbrev pub OnNo : Type 0
  OnNo =
      OnCheck call (λ report old new rules. (Compatible old new rules → ⊥) × (untyped ≡ Some (remark_on old new)) × (t : List ℕ) × IsReportText (wanted_voices report call.voices) old new rules t × A t)
      ⊎ OnApp call (λ report program old new rules. (IsCompatibleFor program old new rules → ⊥) × (untyped ≡ Some (remark_on old new)) × (t : List ℕ) × IsAppReportText (wanted_voices report call.voices) program old new rules t × A t)

  pub no_says : Answers call (Judged verdict.No untyped) text → OnNo
  no_says answer = of (of_command call verdict.No untyped text answer)
    where
      of : OfOne call verdict.No untyped text → OnNo
      of (inl (rules_name, report, old_name, new_name, old, new, rules, reads, said)) =
          inl (rules_name, report, old_name, new_name, old, new, rules, reads, (said.0.0, said.1, text, said.0.1, appends))
      of (inr (inl (rules_name, old_name, new_name, certificate_name, old, new, rules, certificate, reads, said))) = absurd said.0
      of (inr (inr (inl (rules_name, old_name, new_name, certificate_name, old, new, rules, certificate, reads, said)))) = absurd said.0
      of (inr (inr (inr (inl (first_name, middle_name, last_name, certificate1_name, certificate2_name, files, reads, said))))) = absurd said.0
      of (inr (inr (inr (inr (inl (name, tag, library, reads, said)))))) = absurd said.0
      of (inr (inr (inr (inr (inr (inl (name, library, reads, said))))))) = absurd (no_is_done said.done)
      of (inr (inr (inr (inr (inr (inr (inl (name, library, reads, said)))))))) = absurd (no_is_done said.done)
      of (inr (inr (inr (inr (inr (inr (inr (inl (count, is, said))))))))) = absurd (no_is_done said.done)
      of (inr (inr (inr (inr (inr (inr (inr (inr (rules_name, report, app_name, old_name, new_name, program, old, new, rules, reads, said))))))))) =
          inr (rules_name, report, app_name, old_name, new_name, program, old, new, rules, reads, (said.0.0, said.1, text, said.0.1, appends))

  abbrev pub OnRefused : Type 0
  OnRefused =
      OnVerify call (λ old new rules certificate. (refusal : Refusal) × IsRefusedText old new rules certificate refusal × A (refused_text refusal))
      ⊎ (OnMigrate call (λ old new rules certificate. (refusal : Refusal) × IsRefusedMigration old new rules certificate refusal × A (refused_text refusal))
      ⊎ (OnCompose call (λ files. ComposesNone files A) ⊎ OnLayout call (λ library tag. HasNoTag library tag × A no_tag_text)))

  pub refused_says : Answers call (Judged verdict.Refused untyped) text → OnRefused
  refused_says answer = of (of_command call verdict.Refused untyped text answer)
    where
      of : OfOne call verdict.Refused untyped text → OnRefused
      of (inl (rules_name, report, old_name, new_name, old, new, rules, reads, said)) = absurd said.0
      of (inr (inl (rules_name, old_name, new_name, certificate_name, old, new, rules, certificate, reads, said))) =
          inl (rules_name, old_name, new_name, certificate_name, old, new, rules, certificate, reads, (said.0.0, said.0.1, subst A said.0.2 appends))
      of (inr (inr (inl (rules_name, old_name, new_name, certificate_name, old, new, rules, certificate, reads, said)))) =
          inr (inl (rules_name, old_name, new_name, certificate_name, old, new, rules, certificate, reads, (said.0.0, said.0.1, subst A said.0.2 appends)))
      of (inr (inr (inr (inl (first_name, middle_name, last_name, certificate1_name, certificate2_name, files, reads, said))))) =
          inr (inr (inl (first_name, middle_name, last_name, certificate1_name, certificate2_name, files, reads, composes_none text A appends files said.0)))
      of (inr (inr (inr (inr (inl (name, tag, library, reads, said)))))) =
          inr (inr (inr (name, tag, library, reads, (said.0.0, subst A said.0.1 appends))))
      of (inr (inr (inr (inr (inr (inl (name, library, reads, said))))))) = absurd (refused_is_done said.done)
      of (inr (inr (inr (inr (inr (inr (inl (name, library, reads, said)))))))) = absurd (refused_is_done said.done)
      of (inr (inr (inr (inr (inr (inr (inr (inl (count, is, said))))))))) = absurd (refused_is_done said.done)
      of (inr (inr (inr (inr (inr (inr (inr (inr (rules_name, report, app_name, old_name, new_name, program, old, new, rules, reads, said))))))))) = absurd said.0

  abbrev pub OnDone : Type 0
  OnDone =
      OnListing call A
      ⊎ (OnTrial call A
      ⊎ (OnMigrate call (λ old new rules certificate. Compatible old new rules × (t : List ℕ) × IsMigratedText old new rules certificate t × A t)
      ⊎ OnLayout call (λ library tag. (t : List ℕ) × IsLayoutText library tag t × CoversEachBit library tag t × A t)))

  pub done_says : Answers call (Judged verdict.Done untyped) text → OnDone
  done_says answer = of (of_command call verdict.Done untyped text answer)
    where
      of : OfOne call verdict.Done untyped text → OnDone
      of (inl (rules_name, report, old_name, new_name, old, new, rules, reads, said)) = absurd said.0
      of (inr (inl (rules_name, old_name, new_name, certificate_name, old, new, rules, certificate, reads, said))) = absurd said.0
      of (inr (inr (inl (rules_name, old_name, new_name, certificate_name, old, new, rules, certificate, reads, said)))) =
          inr (inr (inl (rules_name, old_name, new_name, certificate_name, old, new, rules, certificate, reads, (said.0.0, text, said.0.1, appends))))
      of (inr (inr (inr (inl (first_name, middle_name, last_name, certificate1_name, certificate2_name, files, reads, said))))) = absurd said.0
      of (inr (inr (inr (inr (inl (name, tag, library, reads, said)))))) =
          inr (inr (inr (name, tag, library, reads, (text, said.0.0, said.0.1, appends))))
      of (inr (inr (inr (inr (inr (inl (name, library, reads, said))))))) = inl (inl (name, library, reads, subst A said.is appends))
      of (inr (inr (inr (inr (inr (inr (inl (name, library, reads, said)))))))) = inl (inr (name, library, reads, subst A said.is appends))
      of (inr (inr (inr (inr (inr (inr (inr (inl (count, is, said))))))))) = inr (inl (count, text, is, said.lines, appends))
      of (inr (inr (inr (inr (inr (inr (inr (inr (rules_name, report, app_name, old_name, new_name, program, old, new, rules, reads, said))))))))) = absurd said.0

-- ---- a library may replace itself

module _ (call : Call) (rules_name : Option (List ℕ)) (report : ReportStyle) (old_name new_name bytes : List ℕ) (is : arguments_by call.words ≡ request (check rules_name report old_name new_name))
    (old_told : call.reading.told old_name ≡ Some bytes) (new_told : call.reading.told new_name ≡ Some bytes) where
  gives_bytes : (name other given : List ℕ) → call.reading.told name ≡ Some bytes → other ≡ name → IfSome (call.reading.told other) (λ t. given ≡ t) → given ≡ bytes
  gives_bytes name other given told same gives = subst (λ o. IfSome o (λ t. given ≡ t)) (ap call.reading.told same ∙ told) gives

  pub itself_says : (untyped : Option Remark) (A : List ℕ → Type 0) → ((same rules : List ℕ) → library_fault same ≡ None → Compatible same same rules)
      → OnCheck call (λ style old new rules. (Compatible old new rules → ⊥) × (untyped ≡ Some (remark_on old new)) × (t : List ℕ) × IsReportText (wanted_voices style call.voices) old new rules t × A t)
      ⊎ OnApp call (λ style program old new rules. (IsCompatibleFor program old new rules → ⊥) × (untyped ≡ Some (remark_on old new)) × (t : List ℕ) × IsAppReportText (wanted_voices style call.voices) program old new rules t × A t) → ⊥
  itself_says untyped A itself (inl (rules_name', report', old_name', new_name', old, new, rules, reads, says)) =
      let words : request (check rules_name' report' old_name' new_name') ≡ request (check rules_name report old_name new_name) = sym reads.words ∙ is in
      let old_same : old_name' ≡ old_name = cc in
      let new_same : new_name' ≡ new_name = cc in
      let old_is = gives_bytes old_name old_name' old old_told old_same reads.given.0 in
      let new_is = gives_bytes new_name new_name' new new_told new_same reads.given.2.0 in
      says.0 (subst (λ (n : List ℕ). Compatible old n rules) (old_is ∙ sym new_is) (itself old rules reads.readable.0))
  itself_says untyped A itself (inr (rules_name', report', app_name', old_name', new_name', program, old, new, rules, reads, says)) =
      let words : request (app rules_name' report' app_name' old_name' new_name') ≡ request (check rules_name report old_name new_name) = sym reads.words ∙ is in cc

-- ---- what a yes or a no says of accesses

-- the law by which a new library may replace an old one exactly where accesses agree
abbrev pub AccessesDecide : Type 0
AccessesDecide =
    (old new rules : List ℕ) → length old ≤ input_limit → length new ≤ input_limit → library_fault old ≡ None → library_fault new ≡ None → Compatible old new rules ↔ Agreed old new rules

-- and it may for one application exactly where those of the application agree
abbrev pub AccessesDecideFor : Type 0
AccessesDecideFor =
    (app old new rules : List ℕ) → length old ≤ input_limit → length new ≤ input_limit → library_fault old ≡ None → library_fault new ≡ None → IsCompatibleFor app old new rules ↔ AgreedFor app old new rules

module _ (decide : AccessesDecide) (decide_for : AccessesDecideFor) (call : Call) (untyped : Option Remark) (text : List ℕ) where
  abbrev Any : List ℕ → Type 0
  Any t = Unit {0}

  abbrev pub AgreesOnYes : Type 0
  AgreesOnYes =
      OnCheck call (λ report old new rules. Agreed old new rules)
      ⊎ (OnVerify call (λ old new rules certificate. Agreed old new rules)
      ⊎ (OnCompose call (λ files. Agreed files.first files.last []) ⊎ OnApp call (λ report program old new rules. AgreedFor program old new rules)))

  pub yes_agreed : Answers call (Judged verdict.Yes untyped) text → AgreesOnYes
  yes_agreed answer = of (yes_says call untyped text Any tt answer)
    where
      of : OnYes call untyped text Any tt → AgreesOnYes
      of (inl (rules_name, report, old_name, new_name, old, new, rules, reads, says)) =
          inl (rules_name, report, old_name, new_name, old, new, rules, reads, (decide old new rules reads.given.1 reads.given.2.1 reads.readable.0 reads.readable.1.0).0 says.0)
      of (inr (inl (rules_name, old_name, new_name, certificate_name, old, new, rules, certificate, reads, says))) =
          inr (inl (rules_name, old_name, new_name, certificate_name, old, new, rules, certificate, reads, (decide old new rules reads.given.1 reads.given.2.1 reads.readable.0 reads.readable.1.0).0 says.1))
      of (inr (inr (inl (first_name, middle_name, last_name, certificate1_name, certificate2_name, files, reads, says)))) =
          inr (inr (inl (first_name, middle_name, last_name, certificate1_name, certificate2_name, files, reads, (decide files.first files.last [] reads.given.1 reads.given.2.2.1 reads.readable.0 reads.readable.1.1.0).0 says.0)))
      of (inr (inr (inr (rules_name, report, app_name, old_name, new_name, program, old, new, rules, reads, says)))) =
          inr (inr (inr (rules_name, report, app_name, old_name, new_name, program, old, new, rules, reads, (decide_for program old new rules reads.given.2.1 reads.given.2.2.1 reads.readable.1.0 reads.readable.1.1.0).0 says.0)))

  abbrev pub DiffersOnNo : Type 0
  DiffersOnNo = OnCheck call (λ report old new rules. Agreed old new rules → ⊥) ⊎ OnApp call (λ report program old new rules. AgreedFor program old new rules → ⊥)

  pub no_agreed : Answers call (Judged verdict.No untyped) text → DiffersOnNo
  no_agreed answer = of (no_says call untyped text Any tt answer)
    where
      of : OnNo call untyped text Any tt → DiffersOnNo
      of (inl (rules_name, report, old_name, new_name, old, new, rules, reads, says)) =
          inl (rules_name, report, old_name, new_name, old, new, rules, reads, λ agreed. says.0 ((decide old new rules reads.given.1 reads.given.2.1 reads.readable.0 reads.readable.1.0).1 agreed))
      of (inr (rules_name, report, app_name, old_name, new_name, program, old, new, rules, reads, says)) =
          inr (rules_name, report, app_name, old_name, new_name, program, old, new, rules, reads, λ agreed. says.0 ((decide_for program old new rules reads.given.2.1 reads.given.2.2.1 reads.readable.1.0 reads.readable.1.1.0).1 agreed))

-- ---- what a yes says of leaves

-- the laws by which the leaves stay
abbrev pub LeavesStayOnYes : Type 0
LeavesStayOnYes =
    (old new rules : List ℕ) → length old ≤ input_limit → length new ≤ input_limit → library_fault old ≡ None → library_fault new ≡ None → Compatible old new rules → KeepsLeaves old new rules

abbrev pub LeavesStayForApp : Type 0
LeavesStayForApp =
    (app old new rules : List ℕ) → length old ≤ input_limit → length new ≤ input_limit → library_fault old ≡ None → library_fault new ≡ None → IsCompatibleFor app old new rules → KeepsLeavesFor app old new rules

module _ (stay : LeavesStayOnYes) (stay_for : LeavesStayForApp) (call : Call) (untyped : Option Remark) (text : List ℕ) where
  abbrev AnyText : List ℕ → Type 0
  AnyText t = Unit {0}

  abbrev pub StayOnYes : Type 0
  StayOnYes =
      OnCheck call (λ report old new rules. KeepsLeaves old new rules)
      ⊎ (OnVerify call (λ old new rules certificate. KeepsLeaves old new rules)
      ⊎ (OnCompose call (λ files. KeepsLeaves files.first files.last []) ⊎ OnApp call (λ report program old new rules. KeepsLeavesFor program old new rules)))

  pub yes_leaves : Answers call (Judged verdict.Yes untyped) text → StayOnYes
  yes_leaves answer = of (yes_says call untyped text AnyText tt answer)
    where
      of : OnYes call untyped text AnyText tt → StayOnYes
      of (inl (rules_name, report, old_name, new_name, old, new, rules, reads, says)) =
          inl (rules_name, report, old_name, new_name, old, new, rules, reads, stay old new rules reads.given.1 reads.given.2.1 reads.readable.0 reads.readable.1.0 says.0)
      of (inr (inl (rules_name, old_name, new_name, certificate_name, old, new, rules, certificate, reads, says))) =
          inr (inl (rules_name, old_name, new_name, certificate_name, old, new, rules, certificate, reads, stay old new rules reads.given.1 reads.given.2.1 reads.readable.0 reads.readable.1.0 says.1))
      of (inr (inr (inl (first_name, middle_name, last_name, certificate1_name, certificate2_name, files, reads, says)))) =
          inr (inr (inl (first_name, middle_name, last_name, certificate1_name, certificate2_name, files, reads, stay files.first files.last [] reads.given.1 reads.given.2.2.1 reads.readable.0 reads.readable.1.1.0 says.0)))
      of (inr (inr (inr (rules_name, report, app_name, old_name, new_name, program, old, new, rules, reads, says)))) =
          inr (inr (inr (rules_name, report, app_name, old_name, new_name, program, old, new, rules, reads, stay_for program old new rules reads.given.2.1 reads.given.2.2.1 reads.readable.1.0 reads.readable.1.1.0 says.0)))

-- ---- each command says one thing

-- the laws by which it does
pub record HaveOneText : Type 0 where
  pub check_text : HasOneCheck
  pub verification : HasOneVerification
  pub migration : HasOneMigration
  pub composition : HasOneComposition
  pub layout_text : HasOneLayout
  pub application : HasOneApp
  pub tried : HasOneTrial
  pub counted : (words : List (List ℕ)) (count : ℕ) → arguments_by words ≡ request (trial count) → (1 ≤ count) × (count ≤ most_functions)

-- the count of a trial is right
abbrev IsCounted : PlainRequest → Type 0
IsCounted (trial count) = count ≤ most_functions
IsCounted other = Unit {0}

module _ (have : HaveOneText) where
  counted_right : (words : List (List ℕ)) (asked : PlainRequest) → arguments_by words ≡ request asked → IsCounted asked
  counted_right words (trial count) is = (have.counted words count is).1
  counted_right words other is = tt

  one_of : (voices : List Voice) (asked : PlainRequest) → AreTextsDecided voices asked → IsCounted asked → SaysOne (command_of voices asked).inputs (command_of voices asked).says
  one_of voices (check rules_name report old_name new_name) decided counted = check_says_one have.check_text (wanted_voices report voices) rules_name old_name new_name decided
  one_of voices (verify rules_name old_name new_name certificate_name) decided counted = verify_says_one have.verification rules_name old_name new_name certificate_name
  one_of voices (entries name) decided counted = entries_says_one name
  one_of voices (exports name) decided counted = exports_says_one name
  one_of voices (trial count) decided counted = trial_says_one have.tried count counted
  one_of voices (migrate rules_name old_name new_name certificate_name) decided counted = migrate_says_one have.migration rules_name old_name new_name certificate_name
  one_of voices (compose first_name middle_name last_name certificate1_name certificate2_name) decided counted =
      compose_says_one have.composition first_name middle_name last_name certificate1_name certificate2_name
  one_of voices (layout name tag) decided counted = layout_says_one have.layout_text name tag
  one_of voices (app rules_name report app_name old_name new_name) decided counted = app_says_one have.application (wanted_voices report voices) rules_name app_name old_name new_name decided

  pub says_one : (call : Call) (asked : PlainRequest) → arguments_by call.words ≡ request asked → AreTextsDecided call.voices asked → SaysOne (command_of call.voices asked).inputs (command_of call.voices asked).says
  says_one call asked is decided = one_of call.voices asked decided (counted_right call.words asked is)
