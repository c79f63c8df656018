-- The notes of the visit, and the definitions that join those that were compared.
use Rattle.std.proofs.Common.{◌∙◌, ◌++◌, List, ap, map, refl, sym}
use Rattle.std.proofs.lemmas.List.{append-nil}
use Rattle.std.proofs.lemmas.Result.{on_ok_weaker}
use Rattle.type_notes.specs.declared.note.Note.{Note}
use Rattle.type_notes.specs.NotedPairs.{defined_behind, noted_at, noted_pair}
use Rattle.type_notes.proofs.WalkLemmas.{compared_free, compared_marked, notes_free, notes_marked}
use Rattle.type_notes.proofs.walk.push_visit.Goals as goal

pub returns-then-is_marked-clause-notes : goal.returns-then-is_marked-clause-notes
returns-then-is_marked-clause-notes c =
    sym (append-nil c.args.notes.now)
    ∙ ap (λ (xs : List Note). c.args.notes.now ++ xs) (sym (notes_marked (noted_pair c.args.walk.now.ground.now) c.args.walk.now.visits.now c.args.number c.visit-visit.result c.visit-visit.ensures (sym c.is_marked.ensures ∙ c.if-is_marked.true)))

pub returns-then-is_marked-clause-compared : goal.returns-then-is_marked-clause-compared
returns-then-is_marked-clause-compared c =
    compared_marked (noted_pair c.args.walk.now.ground.now) c.args.walk.now.visits.now c.args.number c.visit-visit.result c.args.compared.now c.visit-visit.ensures c.requires.compared (sym c.is_marked.ensures ∙ c.if-is_marked.true)

pub returns-then-is_empty-clause-compared : goal.returns-then-is_empty-clause-compared
returns-then-is_empty-clause-compared c =
    compared_free (noted_pair c.args.walk.now.ground.now) c.args.walk.now.visits.now c.args.number c.visit-visit.result c.args.compared.now c.found_at.new.compared (defined_behind (noted_pair c.args.walk.now.ground.now) c.visit-visit.result)
    c.visit-visit.ensures c.requires.compared (sym c.is_marked.ensures ∙ c.if-is_marked.false) refl c.in_ok-found.ensures.compared

pub returns-clause-notes : goal.returns-clause-notes
returns-clause-notes c =
    on_ok_weaker c.push_under_path.result (λ is.
    is
    ∙ ap (λ (xs : List Note). c.args.notes.now ++ xs)
    (ap (map (noted_at (noted_pair c.args.walk.now.ground.now).sides c.args.walk.now.visits.now c.args.number)) (c.as_slice-2.ensures ∙ c.in_ok-found.ensures.found)
    ∙ sym
    (notes_free (noted_pair c.args.walk.now.ground.now) c.args.walk.now.visits.now c.args.number c.visit-visit.result c.args.compared.now c.visit-visit.ensures c.requires.compared (sym c.is_marked.ensures ∙ c.if-is_marked.false)))) c.push_under_path.ensures

pub returns-clause-compared : goal.returns-clause-compared
returns-clause-compared c =
    on_ok_weaker c.push_under_path.result (λ _.
    compared_free (noted_pair c.args.walk.now.ground.now) c.args.walk.now.visits.now c.args.number c.visit-visit.result c.args.compared.now c.found_at.new.compared (defined_behind (noted_pair c.args.walk.now.ground.now) c.visit-visit.result)
    c.visit-visit.ensures c.requires.compared (sym c.is_marked.ensures ∙ c.if-is_marked.false) refl c.in_ok-found.ensures.compared) c.push_under_path.ensures
