use Rattle.std.proofs.Common.{List, ℕ, [], ◌∷◌, sym, subst}
use Rattle.library_read.specs.Faults.{library_fault}
use Rattle.listings.specs.exports.Command.{exports_passes}
use Rattle.commands.specs.Commands.{Asked}
use Rattle.commands.specs.Faults.{StopsAt, stop_of}
use Rattle.commands.proofs.lemmas.Stops.{stops_first}
use Rattle.commands.specs.declared.input.Input.TheVariants.{Library}
use Rattle.listings.proofs.exports.command.ExportsCommand.judge.Goals as goal

pub returns-clause-stops : goal.returns-clause-stops
returns-clause-stops g c =
    let bytes = c.one.result.now in
    let asks : List Asked = (Library, library_fault) ∷ [] in
    let stops : StopsAt asks exports_passes (bytes ∷ []) (stop_of Library c.in-Err.refusal) = stops_first Library library_fault [] exports_passes bytes [] c.in-Err.refusal c.in-Err.ensures.judged c.in-Err.ensures.past in
    subst (λ (l : List (List ℕ)). StopsAt asks exports_passes l c.stop_at.result) (sym c.one.ensures) (subst (StopsAt asks exports_passes (bytes ∷ [])) (sym c.stop_at.ensures) stops)
