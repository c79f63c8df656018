use Rattle.std.proofs.Common.{List, ℕ, sym, subst, OnOk, IfErr}
use Rattle.commands.specs.Faults.{AreReadable, StopsAt}
use Rattle.library_check.specs.Rows.App.{app_asks, app_passes}
use Rattle.library_check.proofs.app.AppCommand.judge.Goals as goal

pub returns-clause-readable : goal.returns-clause-readable
returns-clause-readable g c = subst (λ (l : List (List ℕ)). OnOk c.judge_app.result (AreReadable app_asks l)) (sym c.four.ensures) c.judge_app.ensures.readable

pub returns-clause-stops : goal.returns-clause-stops
returns-clause-stops g c = subst (λ (l : List (List ℕ)). IfErr c.judge_app.result (StopsAt app_asks app_passes l)) (sym c.four.ensures) c.judge_app.ensures.stops
