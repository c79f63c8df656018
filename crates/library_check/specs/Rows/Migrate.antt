-- `migrate`: what it reads and says, and the limits that its inputs pass. It is done with the migrated certificate if that is accepted,
-- and else it is refused with the first condition that it does not meet.
use Rattle.std.specs.Prelude.{◌≡◌, ℕ, List, [], ◌∷◌, Option, None}
use Rattle.abi_base.specs.declared.limit.Limit.{Limit}
use Rattle.abi_base.specs.declared.remark.Remark.{Remark}
use Rattle.cert_check.specs.declared.refused.Refused.{Refused as Refusal}
use Rattle.commands.specs.Commands.{Asked, Wanted, named}
use Rattle.commands.specs.declared.input.Input.TheVariants.{Old, New, Rules, Certificate}
use Rattle.commands.specs.declared.verdict.Verdict.{Verdict}
use Rattle.commands.specs.declared.verdict.Verdict.TheVariants.{Yes, No, Refused, Done}
use Rattle.library_read.specs.Faults.{library_fault}
use Rattle.suppression_text.specs.Faults.{rule_fault}
use Rattle.library_check.specs.Checks.{Compatible}
use Rattle.library_check.specs.Inputs.{library_at, rules_at}
use Rattle.library_check.specs.Limits.{MigratePasses}
use Rattle.library_check.specs.Migrations.{IsMigratedText, IsRefusedMigration, old_certificate_fault}
use Rattle.library_check.specs.Text.{refused_text}

-- the certificate is of version 1
abbrev pub migrate_inputs : (rules : Option (List ℕ)) (old new certificate : List ℕ) → List Wanted
migrate_inputs rules old new certificate =
    library_at Old (named old) ∷ library_at New (named new) ∷ rules_at rules ∷ record { which = Certificate; source = named certificate; fault_in = old_certificate_fault } ∷ []

-- the same, whatever their names are
abbrev pub migrate_asks : List Asked
migrate_asks = (Old, library_fault) ∷ (New, library_fault) ∷ (Rules, rule_fault) ∷ (Certificate, old_certificate_fault) ∷ []

abbrev pub MigrateSays : List ℕ → List ℕ → List ℕ → List ℕ → Verdict → List ℕ → Type 0
MigrateSays old new rules certificate Done text = Compatible old new rules × IsMigratedText old new rules certificate text
MigrateSays old new rules certificate Refused text = (refusal : Refusal) × IsRefusedMigration old new rules certificate refusal × (text ≡ refused_text refusal)
MigrateSays old new rules certificate Yes text = ⊥
MigrateSays old new rules certificate No text = ⊥

abbrev pub migrate_says : List (List ℕ) → Verdict → Option Remark → List ℕ → Type 0
migrate_says (old ∷ new ∷ rules ∷ certificate ∷ []) v untyped text = MigrateSays old new rules certificate v text × (untyped ≡ None)
migrate_says all v untyped text = ⊥

abbrev pub migrate_passes : List (List ℕ) → Limit → Type 0
migrate_passes (old ∷ new ∷ rules ∷ certificate ∷ []) limit = MigratePasses old new rules certificate limit
migrate_passes all limit = ⊥
