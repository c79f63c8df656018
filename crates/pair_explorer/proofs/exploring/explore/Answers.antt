-- The exploration goes on from visit to visit, and ends since there are finitely many triples of representatives.
use Rattle.std.proofs.Common.{◌<◌, [], length, refl, arith, add-one}
use Rattle.std.proofs.lemmas.Option.{slice_get_within}
use Rattle.std.proofs.lemmas.Result.{err_from_is_err_and}
use Rattle.abi_base.proofs.lemmas.Outcomes.{on_limit_weaker}
use Rattle.abi_types.specs.Graphs.{IsGraph}
use Rattle.type_classes.specs.Classes.{AreSound}
use Rattle.pair_explorer.specs.Adding.{entered, root_visit, expanded}
use Rattle.pair_explorer.specs.GraphPairs.{scope_of}
use Rattle.pair_explorer.specs.Scopes.{Scope, IsScope}
use Rattle.pair_explorer.specs.Explorations.{most_triples}
use Rattle.pair_explorer.proofs.Bounds.{length-visited-le}
use Rattle.pair_explorer.proofs.Counting.{counted-on, counted-next-le, counted-all, counted-all-le}
use Rattle.pair_explorer.proofs.Leading.{AreSteps, IsGround}
use Rattle.pair_explorer.proofs.Loop.{IsGoing-start, IsGoing-more, IsExploration-end}
use Rattle.pair_explorer.proofs.Spent.{counted_none, spent_none, spent_on, visits_pass, expansion_passes, all_within}
use Rattle.pair_explorer.proofs.exploring.explore.Goals as goal

is_ground : (s : Scope) → AreSteps s.task → IsScope s → IsGraph s.task.old → IsGraph s.task.new → AreSound s.old → AreSound s.new → IsGround s
is_ground s steps kept old new old_sound new_sound = record { steps = steps; scope = kept; graphs = record { old = old; new = new }; old = old_sound; new = new_sound }

pub list-init : goal.list-init
list-init g c =
    let s : Scope = scope_of c.args.ground.now in
    let ok = is_ground s (record { exact = c.steps_lead_to_nodes.ensures.exact s.task; inside = c.steps_lead_to_nodes.ensures.inside s.task }) c.requires c.known.ensures c.known-2.ensures c.known-3.ensures c.known-4.ensures in
    record {
      going = rw (c.in_ok-add_roots.ensures.visits, c.of-explored.ensures.visits, c.of-explored.ensures.breaks) (IsGoing-start s ok);
      spent = spent_none s c.add_roots.new.reached.visits c.add_roots.new.reached.pairs c.of-explored.result.work.parts c.of-explored.result.work.broken c.in_ok-add_roots.ensures.counted c.of-explored.ensures.parts c.of-explored.ensures.broken;
      cost = omega arith;
    }

pub expand-requires-clause-old : goal.expand-requires-clause-old
expand-requires-clause-old g c = (c.list.invariant.going.visited.placed c.list.number c.visit-visit.result c.visit-visit.ensures).old

pub expand-requires-clause-new : goal.expand-requires-clause-new
expand-requires-clause-new g c = (c.list.invariant.going.visited.placed c.list.number c.visit-visit.result c.visit-visit.ensures).new

pub add_roots-requires-clause-counted : goal.add_roots-requires-clause-counted
add_roots-requires-clause-counted g c = counted_none (scope_of c.args.ground.now) c.of-explored.result.reached.visits c.of-explored.result.reached.pairs c.of-explored.ensures.visits c.of-explored.ensures.pairs

pub expand-requires-clause-counted : goal.expand-requires-clause-counted
expand-requires-clause-counted g c = c.list.invariant.spent.pairs

pub expand-requires-clause-parts : goal.expand-requires-clause-parts
expand-requires-clause-parts g c = record { limit_is = c.list.invariant.spent.parts.limit_is; within = c.list.invariant.spent.parts.within }

pub expand-requires-clause-broken : goal.expand-requires-clause-broken
expand-requires-clause-broken g c = record { limit_is = c.list.invariant.spent.breaks.limit_is; within = c.list.invariant.spent.breaks.within }

pub returns-in_err-add_roots-clause-past : goal.returns-in_err-add_roots-clause-past
returns-in_err-add_roots-clause-past g c =
    let s : Scope = scope_of c.args.ground.now in
    let ok = is_ground s (record { exact = c.steps_lead_to_nodes.ensures.exact s.task; inside = c.steps_lead_to_nodes.ensures.inside s.task }) c.requires c.known.ensures c.known-2.ensures c.known-3.ensures c.known-4.ensures in
    let p = err_from_is_err_and c.from_residual.result c.from_residual.ensures.1 in
    let start = IsGoing-start s ok in
    let was = c.in_err-add_roots.ensures.past in
    rw (p.1, p.2) (on_limit_weaker c.in_err-add_roots.field-0.0 _ _ (λ l h. visits_pass s (entered (root_visit s) (length s.task.roots) []) l start.visited h) (rw c.of-explored.ensures.visits at was))

pub returns-in_err-expand-clause-past : goal.returns-in_err-expand-clause-past
returns-in_err-expand-clause-past g c =
    let s : Scope = scope_of c.args.ground.now in
    let ok = is_ground s (record { exact = c.steps_lead_to_nodes.ensures.exact s.task; inside = c.steps_lead_to_nodes.ensures.inside s.task }) c.requires c.known.ensures c.known-2.ensures c.known-3.ensures c.known-4.ensures in
    let p = err_from_is_err_and c.from_residual-in_err-expand.result c.from_residual-in_err-expand.ensures.1 in
    let inv = c.list.invariant in
    let vs = c.list.explored.reached.visits in
    let v = c.visit-visit.result in
    let more = IsGoing-more s ok vs c.list.number c.list.explored.breaks v c.visit-visit.ensures inv.going in
    rw (p.1, p.2) (on_limit_weaker c.in_err-expand.field-0.0 _ _ (λ l h. expansion_passes s vs (expanded s vs c.list.number v) c.list.number v c.list.explored.reached.pairs c.list.explored.work.parts c.list.explored.work.broken l c.visit-visit.ensures refl inv.going.visited more.visited inv.spent h) c.in_err-expand.ensures.past)

pub expand-requires-clause-graphs : goal.expand-requires-clause-graphs
expand-requires-clause-graphs g c = record { old = c.known.ensures; new = c.known-2.ensures }

pub returns-in_err-expand-clause-bound : goal.returns-in_err-expand-clause-bound
returns-in_err-expand-clause-bound g c =
    let s : Scope = scope_of c.args.ground.now in
    let ok = is_ground s (record { exact = c.steps_lead_to_nodes.ensures.exact s.task; inside = c.steps_lead_to_nodes.ensures.inside s.task }) c.requires c.known.ensures c.known-2.ensures c.known-3.ensures c.known-4.ensures in
    let most = length-visited-le s c.list.explored.reached.visits ok c.list.invariant.going.visited in
    let lt = slice_get_within c.list.explored.reached.visits c.list.number c.visit-visit.result c.visit-visit.ensures in
    let cost = counted-next-le s c.list.explored.reached.visits c.list.number c.args.steps.now c.list.steps c.expand.new.steps c.visit-visit.result c.visit-visit.ensures c.list.invariant.cost c.expand.ensures.cost in
    omega (arith, most, cost)

pub list-smaller : goal.list-smaller
list-smaller g c =
    let s : Scope = scope_of c.args.ground.now in
    let ok = is_ground s (record { exact = c.steps_lead_to_nodes.ensures.exact s.task; inside = c.steps_lead_to_nodes.ensures.inside s.task }) c.requires c.known.ensures c.known-2.ensures c.known-3.ensures c.known-4.ensures in
    let most = length-visited-le s c.list.explored.reached.visits ok c.list.invariant.going.visited in
    let lt = slice_get_within c.list.explored.reached.visits c.list.number c.visit-visit.result c.visit-visit.ensures in
    let below : c.list.number < most_triples s = omega (arith, most, lt) in
    omega (arith, below)

pub list-preserved : goal.list-preserved
list-preserved g c =
    let s : Scope = scope_of c.args.ground.now in
    let ok = is_ground s (record { exact = c.steps_lead_to_nodes.ensures.exact s.task; inside = c.steps_lead_to_nodes.ensures.inside s.task }) c.requires c.known.ensures c.known-2.ensures c.known-3.ensures c.known-4.ensures in
    let more = IsGoing-more s ok c.list.explored.reached.visits c.list.number c.list.explored.breaks c.visit-visit.result c.visit-visit.ensures c.list.invariant.going in
    record {
      going = rw (c.in_ok-expand.ensures.visits, c.in_ok-expand.ensures.breaks, add-one) more;
      spent = rw (c.in_ok-expand.ensures.visits) (spent_on s c.list.explored.reached.visits c.list.number c.visit-visit.result c.list.explored.reached.pairs c.list.explored.work.parts c.list.explored.work.broken c.expand.new.explored.reached.pairs c.expand.new.explored.work.parts c.expand.new.explored.work.broken c.visit-visit.ensures c.list.invariant.spent
          (rw c.in_ok-expand.ensures.visits at c.in_ok-expand.ensures.counted) c.in_ok-expand.ensures.parts c.in_ok-expand.ensures.broken);
      cost = rw c.in_ok-expand.ensures.visits (counted-on s c.list.explored.reached.visits c.list.number c.args.steps.now c.list.steps c.expand.new.steps c.visit-visit.result c.visit-visit.ensures c.list.invariant.cost c.expand.ensures.cost);
    }

pub returns-clause-exploration : goal.returns-clause-exploration
returns-clause-exploration g c =
    IsExploration-end _ c.list.explored.reached.visits c.list.number c.list.explored.breaks c.list.invariant.going (omega (arith, c.list-test.false, c.len.ensures))

pub returns-clause-few : goal.returns-clause-few
returns-clause-few g c =
    let s : Scope = scope_of c.args.ground.now in
    let ok = is_ground s (record { exact = c.steps_lead_to_nodes.ensures.exact s.task; inside = c.steps_lead_to_nodes.ensures.inside s.task }) c.requires c.known.ensures c.known-2.ensures c.known-3.ensures c.known-4.ensures in
    length-visited-le s c.list.explored.reached.visits ok c.list.invariant.going.visited

pub returns-clause-bound : goal.returns-clause-bound
returns-clause-bound g c =
    let s : Scope = scope_of c.args.ground.now in
    let ok = is_ground s (record { exact = c.steps_lead_to_nodes.ensures.exact s.task; inside = c.steps_lead_to_nodes.ensures.inside s.task }) c.requires c.known.ensures c.known-2.ensures c.known-3.ensures c.known-4.ensures in
    let most = length-visited-le s c.list.explored.reached.visits ok c.list.invariant.going.visited in
    let cost = counted-all-le s c.list.explored.reached.visits c.list.number c.args.steps.now c.list.steps (omega (arith, c.list-test.false, c.len.ensures)) c.list.invariant.cost in
    omega (arith, most, cost)

pub returns-clause-steps : goal.returns-clause-steps
returns-clause-steps g c =
    counted-all (scope_of c.args.ground.now) c.list.explored.reached.visits c.list.number c.args.steps.now c.list.steps (omega (arith, c.list-test.false, c.len.ensures)) c.list.invariant.cost

pub returns-clause-cost : goal.returns-clause-cost
returns-clause-cost g c =
    counted-all-le (scope_of c.args.ground.now) c.list.explored.reached.visits c.list.number c.args.steps.now c.list.steps (omega (arith, c.list-test.false, c.len.ensures)) c.list.invariant.cost

pub returns-clause-within : goal.returns-clause-within
returns-clause-within g c =
    all_within (scope_of c.args.ground.now) c.list.explored.reached.visits c.list.number c.list.explored.reached.pairs c.list.explored.work.parts c.list.explored.work.broken (omega (arith, c.list-test.false, c.len.ensures)) c.list.invariant.spent
