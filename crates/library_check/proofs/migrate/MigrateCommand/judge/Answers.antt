use Rattle.std.proofs.Common.{List, ℕ, sym, subst, OnOk, IfErr}
use Rattle.commands.specs.Faults.{AreReadable, StopsAt}
use Rattle.library_check.specs.Rows.Migrate.{migrate_asks, migrate_passes}
use Rattle.library_check.proofs.migrate.MigrateCommand.judge.Goals as goal

pub returns-clause-readable : goal.returns-clause-readable
returns-clause-readable g c = subst (λ (l : List (List ℕ)). OnOk c.migrate.result (AreReadable migrate_asks l)) (sym c.four.ensures) c.migrate.ensures.readable

pub returns-clause-stops : goal.returns-clause-stops
returns-clause-stops g c = subst (λ (l : List (List ℕ)). IfErr c.migrate.result (StopsAt migrate_asks migrate_passes l)) (sym c.four.ensures) c.migrate.ensures.stops
