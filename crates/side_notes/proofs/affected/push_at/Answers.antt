-- The path that was read is the one to the visit.
use Rattle.std.proofs.Common.{◌≡◌, ◌∙◌, ◌++◌, List, OnOk, ap, sym, subst}
use Rattle.std.proofs.lemmas.List.{append-nil}
use Rattle.std.proofs.lemmas.Option.{slice_get_within}
use Rattle.pair_explorer.specs.Routes.{path_at, path_of}
use Rattle.type_notes.specs.declared.note.Note.{Note}
use Rattle.side_notes.proofs.AffectedLemmas.{row_missing, row_there}
use Rattle.side_notes.proofs.affected.push_at.Goals as goal

pub returns-in_default : goal.returns-in_default
returns-in_default c =
    let g = c.args.ground.now in
    sym (ap (λ (ns : List Note). c.args.notes.now ++ ns) (row_missing g.library.now g.walk.now.visits.now c.args.led.now.number c.args.led.now.exports.now (sym c.in_default.ensures)) ∙ append-nil c.args.notes.now)

pub route_to-requires-clause-number : goal.route_to-requires-clause-number
route_to-requires-clause-number c = slice_get_within c.args.ground.now.walk.now.visits.now c.args.led.now.number c.in-Some._visit (sym c.in-Some.ensures)

pub returns : goal.returns
returns c =
    let l = c.args.ground.now.library.now in
    let visits = c.args.ground.now.walk.now.visits.now in
    let route = c.in_ok-route.route in
    let at = sym c.in-Some.ensures in
    let same =
    c.parents_spell_paths.ensures.one visits c.args.led.now.number (path_of route.export route.parts) (path_at visits c.args.led.now.number) c.in_ok-route.ensures.along (c.parents_spell_paths.ensures.along visits c.args.led.now.number c.in-Some._visit c.requires.earlier at) in
    subst (λ (ns : List Note). OnOk c.push_others.result (c.push_others.new.notes ≡ c.args.notes.now ++ ns))
    (row_there l visits c.args.led.now.number route.export route.parts c.as_slice.result.now c.args.led.now.exports.now c.in-Some._visit at same (c.as_slice.ensures ∙ c.in_ok-text.ensures)) c.push_others.ensures
