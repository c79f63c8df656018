-- No step leads on from a marked node.
use Rattle.std.proofs.Common.{◌≡◌, ◌++◌, ◌∙◌, ℕ, List, OnOk, ap, sym, subst}
use Rattle.std.proofs.lemmas.List.{append-nil}
use Rattle.pair_explorer.specs.GraphPairs.{scope_of}
use Rattle.leading_exports.proofs.Drawn.{from_marked, from_unmarked}
use Rattle.leading_exports.proofs.drawing.push_from.Goals as goal

pub returns-then-is_marked : goal.returns-then-is_marked
returns-then-is_marked g c =
    let none =
    from_marked (scope_of c.args.walk.now.ground.now) c.args.walk.now.visits.now c.args.walk.now.numbers.now c.args.number c.visit-visit.result c.visit-visit.ensures (sym c.is_marked.ensures ∙ c.if-is_marked.true) in
    sym (ap (λ (xs : List (ℕ × ℕ)). c.args.arrows.now ++ xs) none ∙ append-nil c.args.arrows.now)

pub returns : goal.returns
returns g c =
    let same =
    from_unmarked (scope_of c.args.walk.now.ground.now) c.args.walk.now.visits.now c.args.walk.now.numbers.now c.args.number c.visit-visit.result c.visit-visit.ensures (sym c.is_marked.ensures ∙ c.if-is_marked.false) in
    subst (λ (xs : List (ℕ × ℕ)). OnOk c.push_along.result (c.push_along.new.arrows ≡ c.args.arrows.now ++ xs)) (sym same) c.push_along.ensures
