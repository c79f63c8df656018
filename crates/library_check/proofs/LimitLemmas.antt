-- A limit that one step of a command passes is one that the command's inputs pass.
use Rattle.std.proofs.Common.{◌≡◌, ◌<◌, ℕ, List, [], length, refl, sym, subst, inl, inr}
use Rattle.abi_base.specs.declared.fault.NoMemory.{NoMemory}
use Rattle.abi_base.specs.declared.fault.NoMemory.TheVariants.{Past}
use Rattle.abi_base.specs.declared.limit.Limit.TheVariants.{Certificate, ComposedLines, PairParts}
use Rattle.abi_base.specs.Outcome.{OnLimit}
use Rattle.abi_base.proofs.lemmas.Outcomes.{on_limit_weaker}
use Rattle.abi_types.specs.Libraries.{PlainLibrary}
use Rattle.abi_types.specs.declared.library.Marks.{Marks}
use Rattle.app_check.specs.Imports.{PlainImport, imports_of}
use Rattle.app_check.specs.Used.{narrowed_marks}
use Rattle.cert_check.specs.Compatible.{sides}
use Rattle.cert_check.specs.Fitting.{lines_allowed, lines_weight}
use Rattle.cert_compose.specs.Chains.{joint}
use Rattle.cert_compose.specs.Composed.{IsComposed}
use Rattle.cert_compose.specs.Limits.{CompositionPasses, OnRefusal}
use Rattle.cert_compose.specs.declared.refusal.ComposeRefusal.{ComposeRefusal}
use Rattle.cert_compose.specs.declared.refusal.ComposeRefusal.TheVariants as composing
use Rattle.cert_text.specs.Certs.{PairLine, PlainCert, PlainCert1, migrated}
use Rattle.cert_text.specs.Grammar.{IsSpelled, IsSpelled1}
use Rattle.library_read.specs.Libraries.{library_of}
use Rattle.pair_compare.specs.Limits.{ComparisonPasses}
use Rattle.suppression_text.specs.Rules.{PlainRules, rules_of}
use Rattle.suppressions.specs.Limits.{MarksPass}
use Rattle.suppressions.specs.Marks.{marks_of}
use Rattle.library_check.specs.Applications.{sides_used, used_by}
use Rattle.library_check.specs.Compositions.{AreAccepted, PlainFiles}
use Rattle.library_check.specs.Judgements.{ruled}
use Rattle.library_check.specs.trial.Trials.{new_library, old_library}
use Rattle.library_check.specs.Limits.{AppPasses, ChainPasses, CheckPasses, ComposePasses, JoinPasses, JudgementPasses, MigratePasses, SecondPasses, SettlementPasses, TrialPasses, UsedPass, VerifyPasses, WritingPasses}

-- ---- judging

pub marks_pass : (old new : PlainLibrary) (rules : PlainRules) (e : NoMemory) → OnLimit e (MarksPass rules old) → OnLimit e (JudgementPasses old new rules)
marks_pass old new rules e h = on_limit_weaker e (MarksPass rules old) (JudgementPasses old new rules) (λ l p. inl p) h

pub comparison_passes : (old new : PlainLibrary) (rules : PlainRules) (marks : Marks) (e : NoMemory) → marks ≡ marks_of rules old → OnLimit e (ComparisonPasses (sides old new marks))
    → OnLimit e (JudgementPasses old new rules)
comparison_passes old new rules marks e is h =
    on_limit_weaker e (ComparisonPasses (ruled old new rules)) (JudgementPasses old new rules) (λ l p. inr p)
    (subst (λ (m : Marks). OnLimit e (ComparisonPasses (sides old new m))) is h)

-- ---- checking

pub judgement_passes : (old new rules : List ℕ) (old_library new_library : PlainLibrary) (read : PlainRules) (e : NoMemory)
    → old_library ≡ library_of old → new_library ≡ library_of new → read ≡ rules_of rules → OnLimit e (JudgementPasses old_library new_library read) → OnLimit e (CheckPasses old new rules)
judgement_passes old new rules old_library new_library read e old_is new_is rules_is h =
    let one = subst (λ (l : PlainLibrary). OnLimit e (JudgementPasses l new_library read)) old_is h in
    let two = subst (λ (l : PlainLibrary). OnLimit e (JudgementPasses (library_of old) l read)) new_is one in
    on_limit_weaker e (JudgementPasses (library_of old) (library_of new) (rules_of rules)) (CheckPasses old new rules) (λ l p. inr p)
    (subst (λ (r : PlainRules). OnLimit e (JudgementPasses (library_of old) (library_of new) r)) rules_is two)

-- ---- verifying

pub marks_settle : (old new : PlainLibrary) (rules : PlainRules) (cert : PlainCert) (e : NoMemory) → OnLimit e (MarksPass rules old) → OnLimit e (SettlementPasses old new rules cert)
marks_settle old new rules cert e h = on_limit_weaker e (MarksPass rules old) (SettlementPasses old new rules cert) (λ l p. inl p) h

pub lines_settle : (old new : PlainLibrary) (rules : PlainRules) (cert : PlainCert) (marks : Marks) (e : NoMemory) → marks ≡ marks_of rules old → e ≡ Past PairParts
    → lines_allowed (sides old new marks) < lines_weight (sides old new marks) cert.pairs → OnLimit e (SettlementPasses old new rules cert)
lines_settle old new rules cert marks e is named above =
    let more = subst (λ (m : Marks). lines_allowed (sides old new m) < lines_weight (sides old new m) cert.pairs) is above in
    let passed : SettlementPasses old new rules cert PairParts = inr (refl, more) in
    subst (λ (x : NoMemory). OnLimit x (SettlementPasses old new rules cert)) (sym named) passed

pub settlement_verifies : (old new rules certificate : List ℕ) (old_library new_library : PlainLibrary) (read : PlainRules) (cert : PlainCert) (e : NoMemory)
    → old_library ≡ library_of old → new_library ≡ library_of new → read ≡ rules_of rules → IsSpelled certificate cert → OnLimit e (SettlementPasses old_library new_library read cert)
    → OnLimit e (VerifyPasses old new rules certificate)
settlement_verifies old new rules certificate old_library new_library read cert e old_is new_is rules_is spelled h =
    let one = subst (λ (l : PlainLibrary). OnLimit e (SettlementPasses l new_library read cert)) old_is h in
    let two = subst (λ (l : PlainLibrary). OnLimit e (SettlementPasses (library_of old) l read cert)) new_is one in
    let three = subst (λ (r : PlainRules). OnLimit e (SettlementPasses (library_of old) (library_of new) r cert)) rules_is two in
    on_limit_weaker e (SettlementPasses (library_of old) (library_of new) (rules_of rules) cert) (VerifyPasses old new rules certificate) (λ l p. inr (cert, spelled, p)) three

-- ---- applying

pub marks_used : (imports : List PlainImport) (old new : PlainLibrary) (rules : PlainRules) (e : NoMemory) → OnLimit e (MarksPass rules old) → OnLimit e (UsedPass imports old new rules)
marks_used imports old new rules e h = on_limit_weaker e (MarksPass rules old) (UsedPass imports old new rules) (λ l p. inl p) h

pub comparison_used : (imports : List PlainImport) (old new : PlainLibrary) (rules : PlainRules) (marks : Marks) (e : NoMemory) → marks ≡ narrowed_marks (marks_of rules old) (used_by imports old)
    → OnLimit e (ComparisonPasses (sides old new marks)) → OnLimit e (UsedPass imports old new rules)
comparison_used imports old new rules marks e is h =
    on_limit_weaker e (ComparisonPasses (sides_used imports old new rules)) (UsedPass imports old new rules) (λ l p. inr p)
    (subst (λ (m : Marks). OnLimit e (ComparisonPasses (sides old new m))) is h)

pub used_pass : (app old new rules : List ℕ) (imports : List PlainImport) (old_library new_library : PlainLibrary) (read : PlainRules) (e : NoMemory)
    → imports ≡ imports_of app → old_library ≡ library_of old → new_library ≡ library_of new → read ≡ rules_of rules → OnLimit e (UsedPass imports old_library new_library read)
    → OnLimit e (AppPasses app old new rules)
used_pass app old new rules imports old_library new_library read e imports_are old_is new_is rules_is h =
    let zero = subst (λ (i : List PlainImport). OnLimit e (UsedPass i old_library new_library read)) imports_are h in
    let one = subst (λ (l : PlainLibrary). OnLimit e (UsedPass (imports_of app) l new_library read)) old_is zero in
    let two = subst (λ (l : PlainLibrary). OnLimit e (UsedPass (imports_of app) (library_of old) l read)) new_is one in
    on_limit_weaker e (UsedPass (imports_of app) (library_of old) (library_of new) (rules_of rules)) (AppPasses app old new rules) (λ l p. inr (inr p))
    (subst (λ (r : PlainRules). OnLimit e (UsedPass (imports_of app) (library_of old) (library_of new) r)) rules_is two)

-- ---- migrating

-- the certificate that is checked is this one
pub settlement_of : (old new : PlainLibrary) (rules : PlainRules) (cert made : PlainCert) (e : NoMemory) → cert ≡ made → OnLimit e (SettlementPasses old new rules cert) → OnLimit e (SettlementPasses old new rules made)
settlement_of old new rules cert made e is h = subst (λ (c : PlainCert). OnLimit e (SettlementPasses old new rules c)) is h

pub settlement_migrates : (old new rules certificate : List ℕ) (old_library new_library : PlainLibrary) (read : PlainRules) (cert : PlainCert1) (e : NoMemory)
    → old_library ≡ library_of old → new_library ≡ library_of new → read ≡ rules_of rules → IsSpelled1 certificate cert → OnLimit e (SettlementPasses old_library new_library read (migrated cert))
    → OnLimit e (MigratePasses old new rules certificate)
settlement_migrates old new rules certificate old_library new_library read cert e old_is new_is rules_is spelled h =
    let one = subst (λ (l : PlainLibrary). OnLimit e (SettlementPasses l new_library read (migrated cert))) old_is h in
    let two = subst (λ (l : PlainLibrary). OnLimit e (SettlementPasses (library_of old) l read (migrated cert))) new_is one in
    let three = subst (λ (r : PlainRules). OnLimit e (SettlementPasses (library_of old) (library_of new) r (migrated cert))) rules_is two in
    on_limit_weaker e (SettlementPasses (library_of old) (library_of new) (rules_of rules) (migrated cert)) (MigratePasses old new rules certificate) (λ l p. inr (cert, spelled, p)) three

-- ---- composing: two certificates

-- the rule file is this one
pub settlement_by : (old new : PlainLibrary) (rules read : PlainRules) (cert : PlainCert) (e : NoMemory) → rules ≡ read → OnLimit e (SettlementPasses old new rules cert) → OnLimit e (SettlementPasses old new read cert)
settlement_by old new rules read cert e is h = subst (λ (r : PlainRules). OnLimit e (SettlementPasses old new r cert)) is h

pub many_lines : (cert : PlainCert) (lines : List PairLine) → lines ≡ cert.pairs → 16777216 < length lines → WritingPasses cert ComposedLines
many_lines cert lines is above = inl (refl, subst (λ (ls : List PairLine). 16777216 < length ls) is above)

pub many_bytes : (cert : PlainCert) (text : List ℕ) → IsSpelled text cert → 268435456 < length text → WritingPasses cert Certificate
many_bytes cert text spelled above = inr (refl, text, spelled, above)

module _ (first middle last : PlainLibrary) (one other : PlainCert) (e : NoMemory) where
  pub composition_joins : AreAccepted (joint first middle last one other) → OnLimit e (CompositionPasses (joint first middle last one other)) → OnLimit e (JoinPasses (joint first middle last one other))
  composition_joins accepted h =
      on_limit_weaker e (CompositionPasses (joint first middle last one other)) (JoinPasses (joint first middle last one other)) (λ l p. (accepted, inl p)) h

  pub refusal_joins : (refusal : ComposeRefusal) → refusal ≡ composing.NoMemory e → AreAccepted (joint first middle last one other) → OnRefusal refusal (CompositionPasses (joint first middle last one other))
      → OnLimit e (JoinPasses (joint first middle last one other))
  refusal_joins refusal is accepted h = composition_joins accepted (subst (λ (r : ComposeRefusal). OnRefusal r (CompositionPasses (joint first middle last one other))) is h)

  pub writing_joins : (cert : PlainCert) → AreAccepted (joint first middle last one other) → IsComposed (joint first middle last one other) cert → OnLimit e (WritingPasses cert) → OnLimit e (JoinPasses (joint first middle last one other))
  writing_joins cert accepted composed h = on_limit_weaker e (WritingPasses cert) (JoinPasses (joint first middle last one other)) (λ l p. (accepted, inr (cert, composed, p))) h

  pub settlement_is_second : (copy : PlainLibrary) → copy ≡ middle → OnLimit e (SettlementPasses copy last (rules_of []) other) → OnLimit e (SecondPasses (joint first middle last one other))
  settlement_is_second copy is h =
      on_limit_weaker e (SettlementPasses middle last (rules_of []) other) (SecondPasses (joint first middle last one other)) (λ l p. inl p)
      (subst (λ (m : PlainLibrary). OnLimit e (SettlementPasses m last (rules_of []) other)) is h)

  pub join_is_second : OnLimit e (JoinPasses (joint first middle last one other)) → OnLimit e (SecondPasses (joint first middle last one other))
  join_is_second h = on_limit_weaker e (JoinPasses (joint first middle last one other)) (SecondPasses (joint first middle last one other)) (λ l p. inr p) h

  pub settlement_is_first : OnLimit e (SettlementPasses first middle (rules_of []) one) → OnLimit e (ChainPasses (joint first middle last one other))
  settlement_is_first h = on_limit_weaker e (SettlementPasses first middle (rules_of []) one) (ChainPasses (joint first middle last one other)) (λ l p. inl p) h

  pub second_is_after : OnLimit e (SecondPasses (joint first middle last one other)) → OnLimit e (ChainPasses (joint first middle last one other))
  second_is_after h = on_limit_weaker e (SecondPasses (joint first middle last one other)) (ChainPasses (joint first middle last one other)) (λ l p. inr p) h

-- ---- composing: texts

abbrev files_of : List ℕ → List ℕ → List ℕ → List ℕ → List ℕ → PlainFiles
files_of first middle last certificate1 certificate2 = record { first = first; middle = middle; last = last; certificate1 = certificate1; certificate2 = certificate2 }

module _ (first middle last certificate1 certificate2 : List ℕ) where
  pub chain_composes : (one_library between other_library : PlainLibrary) (one other : PlainCert) (e : NoMemory)
      → one_library ≡ library_of first → between ≡ library_of middle → other_library ≡ library_of last → IsSpelled certificate1 one → IsSpelled certificate2 other
      → OnLimit e (ChainPasses (joint one_library between other_library one other)) → OnLimit e (ComposePasses (files_of first middle last certificate1 certificate2))
  chain_composes one_library between other_library one other e first_is middle_is last_is one_spelled other_spelled h =
      let a = subst (λ (l : PlainLibrary). OnLimit e (ChainPasses (joint l between other_library one other))) first_is h in
      let b = subst (λ (l : PlainLibrary). OnLimit e (ChainPasses (joint (library_of first) l other_library one other))) middle_is a in
      let d = subst (λ (l : PlainLibrary). OnLimit e (ChainPasses (joint (library_of first) (library_of middle) l one other))) last_is b in
      on_limit_weaker e (ChainPasses (joint (library_of first) (library_of middle) (library_of last) one other)) (ComposePasses (files_of first middle last certificate1 certificate2))
      (λ l x. inr (one, other, one_spelled, other_spelled, x)) d

-- ---- trials

pub judgement_by : (old new : PlainLibrary) (rules read : PlainRules) (e : NoMemory) → rules ≡ read → OnLimit e (JudgementPasses old new rules) → OnLimit e (JudgementPasses old new read)
judgement_by old new rules read e is h = subst (λ (r : PlainRules). OnLimit e (JudgementPasses old new r)) is h

pub judgement_tries : (n : ℕ) (old new : PlainLibrary) (e : NoMemory) → old ≡ library_of (old_library n) → new ≡ library_of (new_library n)
    → OnLimit e (JudgementPasses old new (rules_of [])) → OnLimit e (TrialPasses n)
judgement_tries n old new e old_is new_is h = judgement_passes (old_library n) (new_library n) [] old new (rules_of []) e old_is new_is refl h
