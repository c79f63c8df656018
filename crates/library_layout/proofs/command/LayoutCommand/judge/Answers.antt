use Rattle.std.proofs.Common.{List, ℕ, sym, subst, OnOk, IfErr}
use Rattle.commands.specs.Faults.{AreReadable, StopsAt}
use Rattle.library_layout.specs.Command.{layout_asks, layout_passes}
use Rattle.library_layout.proofs.command.LayoutCommand.judge.Goals as goal

pub returns-clause-readable : goal.returns-clause-readable
returns-clause-readable g c =
    subst (λ (l : List (List ℕ)). OnOk c.layout_of.result (AreReadable layout_asks l)) (sym c.one.ensures) c.layout_of.ensures.readable

pub returns-clause-stops : goal.returns-clause-stops
returns-clause-stops g c =
    subst (λ (l : List (List ℕ)). IfErr c.layout_of.result (StopsAt layout_asks (layout_passes c.args.self.words.tag.now) l)) (sym c.one.ensures) c.layout_of.ensures.stops
