-- Visit by visit.
use Rattle.std.proofs.Common.{◌∙◌, ◌++◌, List, ap, sym, arith}
use Rattle.type_notes.specs.declared.note.Note.{Note}
use Rattle.type_notes.specs.NotedPairs.{notes_at, noted_pair}
use Rattle.type_notes.proofs.WalkLemmas.{notes_more}
use Rattle.type_notes.proofs.walk.notes_along.Goals as goal

pub push_visit-requires-clause-readable : goal.push_visit-requires-clause-readable
push_visit-requires-clause-readable c = c.requires.readable.each c.visits.number (omega arith)

pub visits-preserved : goal.visits-preserved
visits-preserved c = record {
  notes =
      c.in_ok-push_visit.ensures.notes ∙ ap (λ (xs : List Note). xs ++ notes_at (noted_pair c.args.walk.now.ground.now) c.args.walk.now.visits.now c.visits.number) c.visits.invariant.notes
      ∙ sym (notes_more (noted_pair c.args.walk.now.ground.now) c.args.walk.now.visits.now c.visits.number);
  compared = c.in_ok-push_visit.ensures.compared;
}
