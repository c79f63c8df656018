-- `migrate`: what its verdict says, and that it says one thing.
use Rattle.std.proofs.Common.{◌≡◌, ℕ, List, [], ◌∷◌, Option, None, sym, ◌∙◌}
use Rattle.abi_base.specs.declared.remark.Remark.{Remark}
use Rattle.abi_top.specs.Calls.{Call}
use Rattle.abi_top.specs.Rows.Migrate.{OnMigrate}
use Rattle.cli_args.specs.Commands.{migrate}
use Rattle.cli_args.specs.ParsedArguments.{request, arguments_by}
use Rattle.commands.specs.Commands.{asks_of, places_of}
use Rattle.commands.specs.Faults.{AreReadable}
use Rattle.commands.specs.OneReply.{SaysOne}
use Rattle.commands.specs.Reading.{Gives}
use Rattle.commands.specs.declared.verdict.Verdict.{Verdict}
use Rattle.library_check.specs.Rows.Migrate.{MigrateSays, migrate_inputs, migrate_says}

module _ (call : Call) (v : Verdict) (untyped : Option Remark) (text : List ℕ) where
  abbrev pub OfMigrate : Type 0
  OfMigrate = OnMigrate call (λ old new rules certificate. MigrateSays old new rules certificate v text × (untyped ≡ None))

  pub of_migrate : (rules_name : Option (List ℕ)) (old_name new_name certificate_name : List ℕ) → arguments_by call.words ≡ request (migrate rules_name old_name new_name certificate_name)
      → (all : List (List ℕ)) → Gives call.reading.told (places_of (migrate_inputs rules_name old_name new_name certificate_name)) all → AreReadable (asks_of (migrate_inputs rules_name old_name new_name certificate_name)) all
      → migrate_says all v untyped text → OfMigrate
  of_migrate rules_name old_name new_name certificate_name is [] gives readable said = absurd said
  of_migrate rules_name old_name new_name certificate_name is (a ∷ []) gives readable said = absurd said
  of_migrate rules_name old_name new_name certificate_name is (a ∷ b ∷ []) gives readable said = absurd said
  of_migrate rules_name old_name new_name certificate_name is (a ∷ b ∷ c ∷ []) gives readable said = absurd said
  of_migrate rules_name old_name new_name certificate_name is (old ∷ new ∷ rules ∷ certificate ∷ []) gives readable said = (rules_name, old_name, new_name, certificate_name, old, new, rules, certificate, record { words = is; given = gives; readable = readable }, said)
  of_migrate rules_name old_name new_name certificate_name is (a ∷ b ∷ c ∷ d ∷ e ∷ more) gives readable said = absurd said

-- the law by which it has one answer
abbrev pub HasOneMigration : Type 0
HasOneMigration = (old new rules certificate : List ℕ) (v w : Verdict) (text other : List ℕ) → MigrateSays old new rules certificate v text → MigrateSays old new rules certificate w other → (v ≡ w) × (text ≡ other)

module _ (one_answer : HasOneMigration) where
  pub migrate_says_one : (rules_name : Option (List ℕ)) (old_name new_name certificate_name : List ℕ) → SaysOne (migrate_inputs rules_name old_name new_name certificate_name) migrate_says
  migrate_says_one rules_name old_name new_name certificate_name [] short readable v w u x text other one two = absurd one
  migrate_says_one rules_name old_name new_name certificate_name (a ∷ []) short readable v w u x text other one two = absurd one
  migrate_says_one rules_name old_name new_name certificate_name (a ∷ b ∷ []) short readable v w u x text other one two = absurd one
  migrate_says_one rules_name old_name new_name certificate_name (a ∷ b ∷ c ∷ []) short readable v w u x text other one two = absurd one
  migrate_says_one rules_name old_name new_name certificate_name (old ∷ new ∷ rules ∷ certificate ∷ []) short readable v w u x text other one two =
      let both = one_answer old new rules certificate v w text other one.0 two.0 in
      (both.0, one.1 ∙ sym two.1, both.1)
  migrate_says_one rules_name old_name new_name certificate_name (a ∷ b ∷ c ∷ d ∷ e ∷ more) short readable v w u x text other one two = absurd one
