-- The row is that of what the break tells.
use Rattle.std.proofs.Common.{◌≡◌, ◌∙◌, List, IfOk, ap, subst, string_bytes}
use Rattle.abi_types.specs.Graphs.{node_at, view_at}
use Rattle.abi_types.specs.Types.{PlainNode}
use Rattle.report.specs.declared.row.Row.{Row}
use Rattle.pair_explorer.specs.Routes.{path_at, path_of}
use Rattle.pair_compare.specs.BoundPair.{sides_of}
use Rattle.pair_compare.proofs.reports_lemmas.ToldLemmas.{row_is}
use Rattle.pair_compare.proofs.reports.type_findings.row_at.Goals as goal

pub returns-clause-row : goal.returns-clause-row
returns-clause-row c =
    let vs = c.args.visits.now in
    let v = c.visit-visit.result in
    let route = c.in_ok-route.route in
    let same = c.parents_spell_paths.ensures.one vs c.args.number (path_of route.export route.parts) (path_at vs c.args.number) c.in_ok-route.ensures.along (c.parents_spell_paths.ensures.along vs c.args.number v c.requires.earlier c.visit-visit.ensures) in
    subst (λ (r : Row). IfOk c.type_row.result (λ row. row ≡ r))
    (row_is (sides_of c.args.ground.now) vs c.args.number c.args.broken.now v route.export route.parts (string_bytes c.in_ok-export.export) (string_bytes c.in_ok-path.path) c.view.result.now c.view-2.result.now c.entry_of.result c.entry_of-2.result
    c.visit-visit.ensures same c.in_ok-export.ensures.label c.in_ok-path.ensures.text
    (c.view.ensures ∙ ap (λ (g : List PlainNode). view_at g v.old) c.graph-old.ensures) (c.view-2.ensures ∙ ap (λ (g : List PlainNode). view_at g v.new) c.graph-new.ensures)
    (c.entry_of.ensures ∙ ap (λ (g : List PlainNode). (node_at g v.old).entry) c.graph-old.ensures) (c.entry_of-2.ensures ∙ ap (λ (g : List PlainNode). (node_at g v.new).entry) c.graph-new.ensures))
    c.type_row.ensures.row
