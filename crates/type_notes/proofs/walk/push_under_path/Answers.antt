-- The path that was read is the one to the visit.
use Rattle.std.proofs.Common.{◌≡◌, ◌∙◌, ◌++◌, List, sym, subst}
use Rattle.std.specs.Prelude.{OnOk}
use Rattle.pair_rules.specs.Paths.{Path}
use Rattle.pair_explorer.specs.Routes.{path_at, path_of}
use Rattle.pair_compare.specs.BoundPair.{sides_of}
use Rattle.pair_compare.specs.reports.PathTexts.{IsWalk}
use Rattle.type_notes.specs.declared.note.Note.{Note}
use Rattle.type_notes.proofs.WalkLemmas.{noted}
use Rattle.type_notes.proofs.walk.push_under_path.Goals as goal

pub steps_text-requires : goal.steps_text-requires
steps_text-requires c =
    let vs = c.args.place.0.now in
    let n = c.args.place.1 in
    let route = c.in_ok-route.route in
    let same = c.parents_spell_paths.ensures.one vs n (path_of route.export route.parts) (path_at vs n) c.in_ok-route.ensures.along (c.parents_spell_paths.ensures.along vs n c.requires.readable.visit c.requires.earlier c.requires.readable.at) in
    subst (λ (p : Path). IsWalk c.args.ground.now.pair.old.now p) (sym same) c.requires.readable.walk

pub returns : goal.returns
returns c =
    let vs = c.args.place.0.now in
    let n = c.args.place.1 in
    let route = c.in_ok-route.route in
    let same = c.parents_spell_paths.ensures.one vs n (path_of route.export route.parts) (path_at vs n) c.in_ok-route.ensures.along (c.parents_spell_paths.ensures.along vs n c.requires.readable.visit c.requires.earlier c.requires.readable.at) in
    subst (λ (xs : List Note). OnOk c.push_all.result (c.push_all.new.notes ≡ c.args.notes.now ++ xs))
    (noted (sides_of c.args.ground.now.pair) vs n route.export route.parts c.as_str-3.result.now c.as_str-4.result.now c.args.found.now same (c.as_str-3.ensures.value ∙ c.in_ok-export.ensures.label) (c.as_str-4.ensures.value ∙ c.in_ok-path.ensures.text))
    c.push_all.ensures
