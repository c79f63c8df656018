use Rattle.std.proofs.Common.{◌≡◌, ◌∙◌, ap, subst}
use Rattle.std.specs.Prelude.{IfOk}
use Rattle.type_reach.specs.VisitedEntries.{PlainVisited, marked_places, by_offset}
use Rattle.type_reach.proofs.MetLemmas.{places-are}
use Rattle.type_reach.proofs.visited_entries.VisitedEntries.by_offset.Goals as goal

pub returns-clause-found : goal.returns-clause-found
returns-clause-found c =
    let are = ap marked_places c.as_slice.ensures.value
    ∙ places-are c.self.inside.marks.items c.self.inside.entries.items c.self.invariant.0
    ∙ ap (λ (m : PlainVisited). by_offset m.entries m.room) c.self.view_is in
    subst (λ xs. IfOk c.marked.result (λ found. found ≡ xs)) are c.marked.ensures.found
