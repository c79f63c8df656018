use Rattle.std.proofs.Common.{List, ℕ, sym, subst, OnOk, IfErr}
use Rattle.commands.specs.Faults.{AreReadable, StopsAt}
use Rattle.library_check.specs.Rows.Compose.{compose_asks, compose_passes}
use Rattle.library_check.proofs.compose.ComposeCommand.judge.Goals as goal

pub returns-clause-readable : goal.returns-clause-readable
returns-clause-readable g c = subst (λ (l : List (List ℕ)). OnOk c.compose.result (AreReadable compose_asks l)) (sym c.five.ensures) c.compose.ensures.readable

pub returns-clause-stops : goal.returns-clause-stops
returns-clause-stops g c = subst (λ (l : List (List ℕ)). IfErr c.compose.result (StopsAt compose_asks compose_passes l)) (sym c.five.ensures) c.compose.ensures.stops
