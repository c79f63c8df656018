-- What is marked in the end are the numbers that lead to the two types.
use Rattle.std.proofs.Common.{◌≡◌, ◌∙◌, ◌++◌, ℕ, List, drop, length, take, ap, sym, subst, arith}
use Rattle.std.proofs.lemmas.List.{length-map, take-append-le, take_all}
use Rattle.std.proofs.lemmas.Result.{IfOk-weaker}
use Rattle.pair_explorer.specs.GraphPairs.{scope_of}
use Rattle.pair_explorer.specs.Scopes.{Scope}
use Rattle.leading_exports.specs.Leading.{AreLeading, is_lead, is_of_pair}
use Rattle.leading_exports.proofs.Drawn.{StepLaws}
use Rattle.leading_exports.proofs.Reached.{AreLeading-picked, inside, picked, spread_of}
use Rattle.leading_exports.proofs.leading.exports_to.Goals as goal

pub mark_leading-requires : goal.mark_leading-requires
mark_leading-requires c =
    let s : Scope = scope_of c.args.walk.now.ground.now in
    let visits = c.args.walk.now.visits.now in
    let many = ap length (c.as_mut_slice.ensures.value ∙ c.in_ok-marks.ensures.ok) ∙ length-map visits (is_of_pair s c.args.pair.0 c.args.pair.1) in
    inside s visits c.args.walk.now.numbers.now c.args.arrows.now (length c.as_mut_slice.result.now) c.requires.walk c.requires.arrows many

pub returns-clause-leading : goal.returns-clause-leading
returns-clause-leading c =
    let s : Scope = scope_of c.args.walk.now.ground.now in
    let visits = c.args.walk.now.visits.now in
    let entries = c.args.walk.now.numbers.now in
    let laws : StepLaws s = record { visited = c.what_is_visited_has_a_visit.ensures; exact = c.steps_lead_to_nodes.ensures.exact s.task } in
    let count = c.in_ok-marks.marks.len in
    let after = c.mark_leading.new.marks in
    let rest = drop (length after) c.in_ok-marks.marks.items in
    let whole : take count (after ++ rest) ≡ after = take-append-le count after rest (omega (arith, c.mark_leading.auto.marks, c.as_mut_slice.ensures.len)) ∙ take_all count after (omega (arith, c.mark_leading.auto.marks, c.as_mut_slice.ensures.len)) in
    let spread =
    spread_of s visits entries c.args.pair.0 c.args.pair.1 c.args.arrows.now c.as_mut_slice.result.now c.mark_leading.new.marks c.as_slice.result.now c.requires.arrows (c.as_mut_slice.ensures.value ∙ c.in_ok-marks.ensures.ok)
    (c.as_slice.ensures.value ∙ whole) c.in_ok-mark_leading.ensures.marked in
    let are = AreLeading-picked s laws visits entries c.requires.walk c.args.pair.0 c.args.pair.1 c.as_slice.result.now spread in
    IfOk-weaker c.leads_of.result (λ (exports : List ℕ). exports ≡ picked (is_lead s entries c.as_slice.result.now) s.task.roots) (AreLeading s c.args.pair.0 c.args.pair.1)
    (λ (exports : List ℕ) is. subst (AreLeading s c.args.pair.0 c.args.pair.1) (sym is) are) c.leads_of.ensures.ok
