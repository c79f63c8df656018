use Rattle.std.proofs.Common.{List, ℕ, [], ◌∷◌, sym, subst}
use Rattle.listings.specs.entries.EntryLines.{listing_fault}
use Rattle.listings.specs.entries.Command.{entries_passes}
use Rattle.commands.specs.Commands.{Asked}
use Rattle.commands.specs.Faults.{StopsAt, stop_of}
use Rattle.commands.proofs.lemmas.Stops.{stops_first}
use Rattle.commands.specs.declared.input.Input.TheVariants.{Library}
use Rattle.listings.proofs.entries.command.EntriesCommand.judge.Goals as goal

pub returns-clause-stops : goal.returns-clause-stops
returns-clause-stops g c =
    let bytes = c.one.result.now in
    let asks : List Asked = (Library, listing_fault) ∷ [] in
    let stops : StopsAt asks entries_passes (bytes ∷ []) (stop_of Library c.in-Err.refusal) = stops_first Library listing_fault [] entries_passes bytes [] c.in-Err.refusal c.in-Err.ensures.judged c.in-Err.ensures.past in
    subst (λ (l : List (List ℕ)). StopsAt asks entries_passes l c.stop_at.result) (sym c.one.ensures) (subst (StopsAt asks entries_passes (bytes ∷ [])) (sym c.stop_at.ensures) stops)
