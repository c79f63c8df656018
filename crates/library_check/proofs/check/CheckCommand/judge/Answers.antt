use Rattle.std.proofs.Common.{List, ℕ, sym, subst, OnOk, IfErr}
use Rattle.commands.specs.Faults.{AreReadable, StopsAt}
use Rattle.library_check.specs.Inputs.{check_asks}
use Rattle.library_check.specs.Rows.Check.{check_passes}
use Rattle.library_check.proofs.check.CheckCommand.judge.Goals as goal

pub returns-clause-readable : goal.returns-clause-readable
returns-clause-readable g c = subst (λ (l : List (List ℕ)). OnOk c.check_pair.result (AreReadable check_asks l)) (sym c.three.ensures) c.check_pair.ensures.readable

pub returns-clause-stops : goal.returns-clause-stops
returns-clause-stops g c = subst (λ (l : List (List ℕ)). IfErr c.check_pair.result (StopsAt check_asks check_passes l)) (sym c.three.ensures) c.check_pair.ensures.stops
