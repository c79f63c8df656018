use Rattle.std.proofs.Common.{◌≡◌, sym, ◌∙◌, subst, arith}
use Rattle.std.specs.List.Sorted.{IsNonDecreasing, IsPermutation}
use Rattle.std.proofs.lemmas.List.{take_all}
use Rattle.std.proofs.lemmas.List.Sorted.{IsPermutation-refl}
use Rattle.type_reach.proofs.LearnLemmas.{take-step}
use Rattle.type_reach.proofs.learning.in_order.Goals as goal

pub found-preserved : goal.found-preserved
found-preserved c = take-step c.args.found.now c.push.new.self.items c.found.order.items c.found.number c.at.result c.found.invariant c.at.ensures c.in_ok-push.ensures.items

pub returns-clause-same : goal.returns-clause-same
returns-clause-same c =
    let whole : c.found.order.items ≡ c.args.found.now = c.found.invariant ∙ take_all c.found.number c.args.found.now (omega (arith, c.found-test.false, c.len-number-end.ensures)) in
    subst (IsPermutation c.args.found.now) (sym whole) (IsPermutation-refl c.args.found.now)

pub returns-clause-order : goal.returns-clause-order
returns-clause-order c =
    let whole : c.found.order.items ≡ c.args.found.now = c.found.invariant ∙ take_all c.found.number c.args.found.now (omega (arith, c.found-test.false, c.len-number-end.ensures)) in
    subst IsNonDecreasing (sym whole) c.in_order.ensures
