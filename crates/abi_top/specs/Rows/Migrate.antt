-- `migrate`: what `run` promises of it.
use Rattle.std.specs.Prelude.{ℕ, List, [], ◌∷◌, Option}
use Rattle.abi_top.specs.Calls.{Call, Reads}
use Rattle.cert_check.specs.declared.refused.Refused.{Refused as Refusal}
use Rattle.cli_args.specs.Commands.{migrate}
use Rattle.library_check.specs.Checks.{Compatible}
use Rattle.library_check.specs.Migrations.{IsMigratedText, IsRefusedMigration}
use Rattle.library_check.specs.Rows.Migrate.{migrate_inputs}
use Rattle.library_check.specs.Text.{refused_text}

-- the command is `migrate`, and P holds for the readable libraries, rule file and certificate of version 1
abbrev pub OnMigrate : Call → (List ℕ → List ℕ → List ℕ → List ℕ → Type 0) → Type 0
OnMigrate call P =
    (rules_name : Option (List ℕ)) × (old_name new_name certificate_name old new rules certificate : List ℕ)
    × Reads call (migrate rules_name old_name new_name certificate_name) (migrate_inputs rules_name old_name new_name certificate_name) (old ∷ new ∷ rules ∷ certificate ∷ []) × P old new rules certificate

-- ---- where P holds for the text that was appended

-- refused: the text names the first condition that the migrated certificate does not meet
abbrev pub MigrateRefused : Call → (List ℕ → Type 0) → Type 0
MigrateRefused call P = OnMigrate call (λ old new rules certificate.
    (refusal : Refusal) × IsRefusedMigration old new rules certificate refusal × P (refused_text refusal))

-- done: the text is the migrated certificate, which is accepted, so that the new library may replace the old one
abbrev pub MigrateDone : Call → (List ℕ → Type 0) → Type 0
MigrateDone call P = OnMigrate call (λ old new rules certificate.
    Compatible old new rules × (text : List ℕ) × IsMigratedText old new rules certificate text × P text)
