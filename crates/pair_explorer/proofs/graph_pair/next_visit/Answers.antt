-- The step that the code takes is the one over representatives.
use Rattle.std.proofs.Common.{ap, ◌≡◌, ◌∙◌, Some}
use Rattle.pair_rules.specs.Stable.{IsInside}
use Rattle.pair_rules.specs.Steps.{Triple}
use Rattle.pair_explorer.specs.GraphPairs.{scope_of}
use Rattle.pair_explorer.specs.Visits.{seen}
use Rattle.pair_explorer.proofs.Leading.{next-inside, next_visit-none, next_visit-is}
use Rattle.pair_explorer.proofs.graph_pair.next_visit.Goals as goal
use Rattle.pair_explorer.proofs.lemmas.Steps.{node-fits}

pub returns-in_err-next-clause-visit : goal.returns-in_err-next-clause-visit
returns-in_err-next-clause-visit c = c.from_residual.ensures ∙ next_visit-none (scope_of c.args.ground.now) c.args.number c.args.i (seen c.args.visit.now) c.view-old.result.now c.view-new.result.now c.requires.unmarked c.view-old.ensures c.view-new.ensures c.in_err-next.ensures

pub rep-requires : goal.rep-requires
rep-requires c =
    let s = scope_of c.args.ground.now in
    let inside : IsInside s.task c.in_ok-next.next = next-inside s (seen c.args.visit.now) c.in_ok-next.next c.args.i c.view-old.result.now c.view-new.result.now (record { exact = c.steps_lead_to_nodes.ensures.exact s.task; inside = c.steps_lead_to_nodes.ensures.inside s.task }) c.requires.graphs c.requires.unmarked c.view-old.ensures c.view-new.ensures c.in_ok-next.ensures in
    node-fits c.next.inside.old c.in_ok-next.next.old c.args.ground.now.old_classes.now.nodes c.args.ground.now.old.now (ap (λ (x : Triple). x.old) c.next.view_is) c.requires.nodes.old_nodes inside.old

pub rep-requires-2 : goal.rep-requires-2
rep-requires-2 c =
    let s = scope_of c.args.ground.now in
    let inside : IsInside s.task c.in_ok-next.next = next-inside s (seen c.args.visit.now) c.in_ok-next.next c.args.i c.view-old.result.now c.view-new.result.now (record { exact = c.steps_lead_to_nodes.ensures.exact s.task; inside = c.steps_lead_to_nodes.ensures.inside s.task }) c.requires.graphs c.requires.unmarked c.view-old.ensures c.view-new.ensures c.in_ok-next.ensures in
    node-fits c.next.inside.new c.in_ok-next.next.new c.args.ground.now.new_classes.now.nodes c.args.ground.now.new.now (ap (λ (x : Triple). x.new) c.next.view_is) c.requires.nodes.new_nodes inside.new

pub returns-clause-visit : goal.returns-clause-visit
returns-clause-visit c =
    let made : Some (record { old = c.next.inside.old; new = c.next.inside.new; way = c.next.inside.way }) ≡ Some c.in_ok-next.next = ap (λ (x : Triple). Some x) c.next.view_is in
    next_visit-is (scope_of c.args.ground.now) c.args.number c.args.i (seen c.args.visit.now) (record { old = c.next.inside.old; new = c.next.inside.new; way = c.next.inside.way }) c.view-old.result.now c.view-new.result.now c.rep.result c.rep-2.result
    c.requires.unmarked c.view-old.ensures c.view-new.ensures (made ∙ c.in_ok-next.ensures) c.rep.ensures.rep c.rep-2.ensures.rep
