use Rattle.std.proofs.Common.{◌<◌, ◌+◌, ◌∙◌, ℕ, Some, length, sym, arith, subst}
use Rattle.std.proofs.lemmas.List.{get_or_read}
use Rattle.std.specs.Prelude.{IfSome, IfNone}
use Rattle.std.proofs.lemmas.List.Elements.{All-more}
use Rattle.abi_base.specs.Limits.{depth_limit}
use Rattle.type_reach.specs.ByValue.{StepsOn, IsTooDeep, IsNoDeeper}
use Rattle.type_reach.proofs.LearnLemmas.{Contains-back, first-deep, all-shallow}
use Rattle.type_reach.proofs.learning.find_deep.Goals as goal

pub learn-requires-clause-there : goal.learn-requires-clause-there
learn-requires-clause-there c =
    let order = c.in_ok-order.order.items in
    let lt : c.order.k < length order = omega (arith, c.order-test.true, c.len-k-end.ensures) in
    Contains-back c.args.types.now.found.now order c.index.result.now c.in_ok-order.ensures.same (c.order.k, lt, sym c.index.ensures)

pub returns-in-None-clause-first : goal.returns-in-None-clause-first
returns-in-None-clause-first c =
    let t = c.args.types.now.dwarf.now.tree in
    let order = c.in_ok-order.order.items in
    let lt : c.order.k < length order = omega (arith, c.order-test.true, c.len-k-end.ensures) in
    let on = subst (λ o. IfNone o (StepsOn t (depth_limit + 1) (Some c.index.result.now))) c.in-None.is c.in_ok-learn.ensures.many in
    let same = get_or_read order c.order.k c.index.result.now lt c.index.ensures c.index-in-None.result.now ∙ sym c.index-in-None.ensures in
    first-deep t c.args.types.now.found.now order c.order.k c.index-in-None.result.now c.in_ok-order.ensures.same c.in_ok-order.ensures.order c.order.invariant.shallow lt c.index-in-None.ensures (subst (λ e. IsTooDeep t (Some e)) same on)

pub order-preserved : goal.order-preserved
order-preserved c =
    let t = c.args.types.now.dwarf.now.tree in
    let order = c.in_ok-order.order.items in
    let lt : c.order.k < length order = omega (arith, c.order-test.true, c.len-k-end.ensures) in
    let few = subst (λ o. IfSome o (λ x. IsNoDeeper t depth_limit (Some c.index.result.now))) c.in-Some.is c.in_ok-learn.ensures.few in
    record {
      known = c.in_ok-learn.ensures.known;
      len = c.in_ok-learn.ensures.len;
      shallow = All-more (λ (e : ℕ). IsTooDeep t (Some e) → ⊥) order c.order.k c.index.result.now lt c.order.invariant.shallow (subst (λ e. IsTooDeep t (Some e) → ⊥) c.index.ensures few);
    }

pub returns-clause-none : goal.returns-clause-none
returns-clause-none c =
    all-shallow c.args.types.now.dwarf.now.tree c.args.types.now.found.now c.in_ok-order.order.items c.order.k c.in_ok-order.ensures.same c.order.invariant.shallow (omega (arith, c.order-test.false, c.len-k-end.ensures))
