-- What stops on one input of a command, or in one step of it, stops the command.
use Rattle.std.proofs.Common.{◌≡◌, ℕ, List, [], ◌∷◌, None, refl, subst, inl, inr}
use Rattle.abi_base.specs.declared.fault.NoMemory.{NoMemory}
use Rattle.abi_base.specs.declared.limit.Limit.{Limit}
use Rattle.abi_base.specs.Outcome.{OnLimit}
use Rattle.abi_base.proofs.lemmas.Outcomes.{on_limit_weaker}
use Rattle.abi_types.specs.Libraries.{PlainLibrary}
use Rattle.app_check.specs.Imports.{PlainImport, app_fault, imports_of}
use Rattle.app_check.specs.Imports as imports
use Rattle.cert_compose.specs.Chains.{joint}
use Rattle.cert_text.specs.Certs.{PlainCert, PlainCert1, migrated}
use Rattle.cert_text.specs.Grammar.{IsSpelled, IsSpelled1}
use Rattle.commands.specs.Faults.{AreReadable, StopsAt, StopsOn}
use Rattle.commands.specs.declared.input.Input.TheVariants.{Old, New, Rules, Certificate, First, Middle, Last, Certificate1, Certificate2, App}
use Rattle.commands.specs.declared.stop.Stop.{Stop}
use Rattle.commands.specs.declared.stop.Stop.TheVariants as stop
use Rattle.commands.proofs.lemmas.Stops.{stops_after, stops_among, stops_behind, stops_here}
use Rattle.library_read.specs.Faults.{library_fault}
use Rattle.library_read.specs.Libraries.{library_of}
use Rattle.library_read.specs.Limits.{LibraryPasses}
use Rattle.suppression_text.specs.Classes.{PassesClasses}
use Rattle.suppression_text.specs.Faults.{rule_fault}
use Rattle.suppression_text.specs.Rules.{PlainRules, rules_of}
use Rattle.library_check.specs.Compositions.{PlainFiles, bytes_in_order}
use Rattle.library_check.specs.Inputs.{check_asks, pair_asks}
use Rattle.library_check.specs.Limits.{ChainPasses, JudgementPasses, SettlementPasses, UsedPass, inputs_pass, pair_passes}
use Rattle.library_check.specs.Migrations.{old_certificate_fault}
use Rattle.library_check.specs.Rows.App.{app_asks, app_passes}
use Rattle.library_check.specs.Rows.Check.{check_passes}
use Rattle.library_check.specs.Rows.Compose.{chain_asks, chain_passes, compose_asks, compose_passes}
use Rattle.library_check.specs.Rows.Migrate.{migrate_asks, migrate_passes}
use Rattle.library_check.specs.Rows.Trial.{trial_passes}
use Rattle.library_check.specs.Rows.Verify.{verify_asks, verify_passes}
use Rattle.library_check.specs.Verifications.{certificate_fault}
use Rattle.library_check.specs.trial.Trials.{new_library, old_library}
use Rattle.library_check.proofs.LimitLemmas.{chain_composes, judgement_passes, settlement_migrates, settlement_verifies, used_pass}

-- ---- reading two libraries and a rule file

pub old_stops : (old new : List ℕ) (s : Stop) → StopsOn Old (library_fault old) (LibraryPasses old) s → StopsAt pair_asks pair_passes (old ∷ new ∷ []) s
old_stops old new s h = stops_here Old library_fault ((New, library_fault) ∷ []) pair_passes old (new ∷ []) (LibraryPasses old) (λ l p. inl p) s h

pub new_stops : (old new : List ℕ) (s : Stop) → library_fault old ≡ None → StopsOn New (library_fault new) (LibraryPasses new) s → StopsAt pair_asks pair_passes (old ∷ new ∷ []) s
new_stops old new s readable h = stops_after ((Old, library_fault) ∷ []) [] New library_fault pair_passes (old ∷ []) [] new (LibraryPasses new) refl (readable, tt) (λ l p. inr p) s h

pub pair_stops : (old new rules : List ℕ) (s : Stop) → StopsAt pair_asks pair_passes (old ∷ new ∷ []) s → StopsAt check_asks inputs_pass (old ∷ new ∷ rules ∷ []) s
pair_stops old new rules s h = stops_among pair_asks ((Rules, rule_fault) ∷ []) pair_passes inputs_pass (old ∷ new ∷ []) (rules ∷ []) (λ l p. inl p) s h

pub rules_stop : (old new rules : List ℕ) (s : Stop) → AreReadable pair_asks (old ∷ new ∷ []) → StopsOn Rules (rule_fault rules) (PassesClasses rules) s → StopsAt check_asks inputs_pass (old ∷ new ∷ rules ∷ []) s
rules_stop old new rules s readable h = stops_after pair_asks [] Rules rule_fault inputs_pass (old ∷ new ∷ []) [] rules (PassesClasses rules) refl readable (λ l p. inr p) s h

-- ---- `check`

pub inputs_stop_check : (old new rules : List ℕ) (s : Stop) → StopsAt check_asks inputs_pass (old ∷ new ∷ rules ∷ []) s → StopsAt check_asks check_passes (old ∷ new ∷ rules ∷ []) s
inputs_stop_check old new rules s h = stops_among check_asks [] inputs_pass check_passes (old ∷ new ∷ rules ∷ []) [] (λ l p. inl p) s h

pub judgement_stops_check : (old new rules : List ℕ) (old_library new_library : PlainLibrary) (read : PlainRules) (cause : NoMemory)
    → old_library ≡ library_of old → new_library ≡ library_of new → read ≡ rules_of rules → OnLimit cause (JudgementPasses old_library new_library read)
    → StopsAt check_asks check_passes (old ∷ new ∷ rules ∷ []) (stop.NoMemory cause)
judgement_stops_check old new rules old_library new_library read cause old_is new_is rules_is h = judgement_passes old new rules old_library new_library read cause old_is new_is rules_is h

-- ---- `app`

pub imports_stop_app : (app old new rules : List ℕ) (s : Stop) → StopsOn App (app_fault app) (imports.AppPasses app) s → StopsAt app_asks app_passes (app ∷ old ∷ new ∷ rules ∷ []) s
imports_stop_app app old new rules s h = stops_here App app_fault check_asks app_passes app (old ∷ new ∷ rules ∷ []) (imports.AppPasses app) (λ l p. inl p) s h

pub inputs_stop_app : (app old new rules : List ℕ) (s : Stop) → app_fault app ≡ None → StopsAt check_asks inputs_pass (old ∷ new ∷ rules ∷ []) s → StopsAt app_asks app_passes (app ∷ old ∷ new ∷ rules ∷ []) s
inputs_stop_app app old new rules s readable h = stops_behind (App, app_fault) check_asks inputs_pass app_passes app (old ∷ new ∷ rules ∷ []) (λ l p. inr (inl p)) readable s h

pub used_stops_app : (app old new rules : List ℕ) (read_imports : List PlainImport) (old_library new_library : PlainLibrary) (read : PlainRules) (cause : NoMemory)
    → read_imports ≡ imports_of app → old_library ≡ library_of old → new_library ≡ library_of new → read ≡ rules_of rules → OnLimit cause (UsedPass read_imports old_library new_library read)
    → StopsAt app_asks app_passes (app ∷ old ∷ new ∷ rules ∷ []) (stop.NoMemory cause)
used_stops_app app old new rules read_imports old_library new_library read cause imports_are old_is new_is rules_is h =
    used_pass app old new rules read_imports old_library new_library read cause imports_are old_is new_is rules_is h

-- ---- `verify`

pub inputs_stop_verify : (old new rules certificate : List ℕ) (s : Stop) → StopsAt check_asks inputs_pass (old ∷ new ∷ rules ∷ []) s → StopsAt verify_asks verify_passes (old ∷ new ∷ rules ∷ certificate ∷ []) s
inputs_stop_verify old new rules certificate s h =
    stops_among check_asks ((Certificate, certificate_fault) ∷ []) inputs_pass verify_passes (old ∷ new ∷ rules ∷ []) (certificate ∷ []) (λ l p. inl p) s h

pub certificate_stops_verify : (old new rules certificate : List ℕ) (s : Stop) → AreReadable check_asks (old ∷ new ∷ rules ∷ []) → StopsOn Certificate (certificate_fault certificate) (λ l. ⊥) s
    → StopsAt verify_asks verify_passes (old ∷ new ∷ rules ∷ certificate ∷ []) s
certificate_stops_verify old new rules certificate s readable h =
    stops_after check_asks [] Certificate certificate_fault verify_passes (old ∷ new ∷ rules ∷ []) [] certificate (λ l. ⊥) refl readable (λ l p. absurd p) s h

pub settlement_stops_verify : (old new rules certificate : List ℕ) (old_library new_library : PlainLibrary) (read : PlainRules) (cert : PlainCert) (cause : NoMemory)
    → old_library ≡ library_of old → new_library ≡ library_of new → read ≡ rules_of rules → IsSpelled certificate cert → OnLimit cause (SettlementPasses old_library new_library read cert)
    → StopsAt verify_asks verify_passes (old ∷ new ∷ rules ∷ certificate ∷ []) (stop.NoMemory cause)
settlement_stops_verify old new rules certificate old_library new_library read cert cause old_is new_is rules_is spelled h =
    settlement_verifies old new rules certificate old_library new_library read cert cause old_is new_is rules_is spelled h

-- ---- `migrate`

pub inputs_stop_migrate : (old new rules certificate : List ℕ) (s : Stop) → StopsAt check_asks inputs_pass (old ∷ new ∷ rules ∷ []) s → StopsAt migrate_asks migrate_passes (old ∷ new ∷ rules ∷ certificate ∷ []) s
inputs_stop_migrate old new rules certificate s h =
    stops_among check_asks ((Certificate, old_certificate_fault) ∷ []) inputs_pass migrate_passes (old ∷ new ∷ rules ∷ []) (certificate ∷ []) (λ l p. inl p) s h

pub certificate_stops_migrate : (old new rules certificate : List ℕ) (s : Stop) → AreReadable check_asks (old ∷ new ∷ rules ∷ []) → StopsOn Certificate (old_certificate_fault certificate) (λ l. ⊥) s
    → StopsAt migrate_asks migrate_passes (old ∷ new ∷ rules ∷ certificate ∷ []) s
certificate_stops_migrate old new rules certificate s readable h =
    stops_after check_asks [] Certificate old_certificate_fault migrate_passes (old ∷ new ∷ rules ∷ []) [] certificate (λ l. ⊥) refl readable (λ l p. absurd p) s h

pub settlement_stops_migrate : (old new rules certificate : List ℕ) (old_library new_library : PlainLibrary) (read : PlainRules) (cert : PlainCert1) (cause : NoMemory)
    → old_library ≡ library_of old → new_library ≡ library_of new → read ≡ rules_of rules → IsSpelled1 certificate cert → OnLimit cause (SettlementPasses old_library new_library read (migrated cert))
    → StopsAt migrate_asks migrate_passes (old ∷ new ∷ rules ∷ certificate ∷ []) (stop.NoMemory cause)
settlement_stops_migrate old new rules certificate old_library new_library read cert cause old_is new_is rules_is spelled h =
    settlement_migrates old new rules certificate old_library new_library read cert cause old_is new_is rules_is spelled h

-- ---- `compose`

module _ (first middle last : List ℕ) where
  pub first_stops : (s : Stop) → StopsOn First (library_fault first) (LibraryPasses first) s → StopsAt chain_asks chain_passes (first ∷ middle ∷ last ∷ []) s
  first_stops s h = stops_here First library_fault ((Middle, library_fault) ∷ (Last, library_fault) ∷ []) chain_passes first (middle ∷ last ∷ []) (LibraryPasses first) (λ l p. inl p) s h

  pub middle_stops : (s : Stop) → library_fault first ≡ None → StopsOn Middle (library_fault middle) (LibraryPasses middle) s → StopsAt chain_asks chain_passes (first ∷ middle ∷ last ∷ []) s
  middle_stops s readable h =
      stops_after ((First, library_fault) ∷ []) ((Last, library_fault) ∷ []) Middle library_fault chain_passes (first ∷ []) (last ∷ []) middle (LibraryPasses middle) refl (readable, tt) (λ l p. inr (inl p)) s h

  pub last_stops : (s : Stop) → library_fault first ≡ None → library_fault middle ≡ None → StopsOn Last (library_fault last) (LibraryPasses last) s → StopsAt chain_asks chain_passes (first ∷ middle ∷ last ∷ []) s
  last_stops s readable readable' h =
      stops_after ((First, library_fault) ∷ (Middle, library_fault) ∷ []) [] Last library_fault chain_passes (first ∷ middle ∷ []) [] last (LibraryPasses last) refl (readable, (readable', tt)) (λ l p. inr (inr p)) s h

  pub copy_stops : (cause : NoMemory) → OnLimit cause (LibraryPasses middle) → StopsAt chain_asks chain_passes (first ∷ middle ∷ last ∷ []) (stop.NoMemory cause)
  copy_stops cause h = on_limit_weaker cause (LibraryPasses middle) (chain_passes (first ∷ middle ∷ last ∷ [])) (λ l p. inr (inl p)) h

module _ (p : PlainFiles) where
  pub libraries_stop_compose : (s : Stop) → StopsAt chain_asks chain_passes (p.first ∷ p.middle ∷ p.last ∷ []) s → StopsAt compose_asks compose_passes (bytes_in_order p) s
  libraries_stop_compose s h =
      stops_among chain_asks ((Certificate1, certificate_fault) ∷ (Certificate2, certificate_fault) ∷ []) chain_passes compose_passes (p.first ∷ p.middle ∷ p.last ∷ []) (p.certificate1 ∷ p.certificate2 ∷ [])
      (λ l x. inl x) s h

  pub one_stops_compose : (s : Stop) → AreReadable chain_asks (p.first ∷ p.middle ∷ p.last ∷ []) → StopsOn Certificate1 (certificate_fault p.certificate1) (λ l. ⊥) s → StopsAt compose_asks compose_passes (bytes_in_order p) s
  one_stops_compose s readable h =
      stops_after chain_asks ((Certificate2, certificate_fault) ∷ []) Certificate1 certificate_fault compose_passes (p.first ∷ p.middle ∷ p.last ∷ []) (p.certificate2 ∷ []) p.certificate1 (λ l. ⊥) refl
      readable (λ l x. absurd x) s h

  pub other_stops_compose : (s : Stop) → AreReadable chain_asks (p.first ∷ p.middle ∷ p.last ∷ []) → certificate_fault p.certificate1 ≡ None → StopsOn Certificate2 (certificate_fault p.certificate2) (λ l. ⊥) s
      → StopsAt compose_asks compose_passes (bytes_in_order p) s
  other_stops_compose s readable one h =
      let before : AreReadable ((First, library_fault) ∷ (Middle, library_fault) ∷ (Last, library_fault) ∷ (Certificate1, certificate_fault) ∷ []) (p.first ∷ p.middle ∷ p.last ∷ p.certificate1 ∷ []) = (readable.0, (readable.1.0, (readable.1.1.0, (one, tt)))) in
      stops_after ((First, library_fault) ∷ (Middle, library_fault) ∷ (Last, library_fault) ∷ (Certificate1, certificate_fault) ∷ []) [] Certificate2 certificate_fault compose_passes
      (p.first ∷ p.middle ∷ p.last ∷ p.certificate1 ∷ []) [] p.certificate2 (λ l. ⊥) refl before (λ l x. absurd x) s h

  pub chain_stops_compose : (one_library between other_library : PlainLibrary) (one other : PlainCert) (cause : NoMemory)
      → one_library ≡ library_of p.first → between ≡ library_of p.middle → other_library ≡ library_of p.last → IsSpelled p.certificate1 one → IsSpelled p.certificate2 other
      → OnLimit cause (ChainPasses (joint one_library between other_library one other)) → StopsAt compose_asks compose_passes (bytes_in_order p) (stop.NoMemory cause)
  chain_stops_compose one_library between other_library one other cause first_is middle_is last_is one_spelled other_spelled h =
      chain_composes p.first p.middle p.last p.certificate1 p.certificate2 one_library between other_library one other cause first_is middle_is last_is one_spelled other_spelled h

-- ---- `trial`

pub pair_stops_trial : (n : ℕ) (old new : List ℕ) (s : Stop) → old ≡ old_library n → new ≡ new_library n → StopsAt pair_asks pair_passes (old ∷ new ∷ []) s
    → StopsAt pair_asks (trial_passes n) (old ∷ new ∷ []) s
pair_stops_trial n old new s old_is new_is h =
    let moved : (l : Limit) → pair_passes (old ∷ new ∷ []) l → trial_passes n (old ∷ new ∷ []) l =
    λ l p. inl (inl (subst (λ (b : List ℕ). pair_passes (old_library n ∷ b ∷ []) l) new_is (subst (λ (a : List ℕ). pair_passes (a ∷ new ∷ []) l) old_is p))) in
    stops_among pair_asks [] pair_passes (trial_passes n) (old ∷ new ∷ []) [] moved s h

pub trying_stops_trial : (n : ℕ) (old new : List ℕ) (cause : NoMemory) → OnLimit cause (trial_passes n (old ∷ new ∷ [])) → StopsAt pair_asks (trial_passes n) (old ∷ new ∷ []) (stop.NoMemory cause)
trying_stops_trial n old new cause h = h
