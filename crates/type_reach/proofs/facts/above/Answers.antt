use Rattle.std.proofs.Common.{arith, sym, ap, subst, ◌∙◌, ◌≡◌, ◌<◌, ◌-◌, map, drop, List}
use Rattle.abi_base.specs.Limits.{depth_limit}
use Rattle.type_reach.specs.declared.facts.Facts.{Facts}
use Rattle.type_reach.specs.Facts.{above, rank_in}
use Rattle.type_reach.proofs.LoopLemmas.{drop-down, drop-none}
use Rattle.type_reach.proofs.RankLemmas.{above-all}
use Rattle.type_reach.proofs.facts.above.Goals as goal

pub down-init : goal.down-init
unfolding above
down-init c = record { is = sym (drop-none (λ (xs : List Facts). above (map rank_in xs)) c.args.facts.now); bound = omega arith; place = omega arith }

pub down-preserved-then-one-most : goal.down-preserved-then-one-most
unfolding above
down-preserved-then-one-most c =
    let e = drop-down (λ (xs : List Facts). above (map rank_in xs)) c.args.facts.now c.down.k c.index-facts-k.result c.down-test.true c.down.invariant.place c.index-facts-k.is in
    let r = subst (λ (x : Facts). x.rank < depth_limit) (sym c.index-facts-k.is) (c.requires (c.down.k - 1) c.index-facts-k.result (omega (arith, c.down-test.true, c.down.invariant.place))) in
    record { is = omega (arith, e, c.down.invariant.is, c.if-one-most.true); bound = omega (arith, r); place = omega (arith, c.down.invariant.place) }

pub down-preserved : goal.down-preserved
unfolding above
down-preserved c =
    let e = drop-down (λ (xs : List Facts). above (map rank_in xs)) c.args.facts.now c.down.k c.index-facts-k.result c.down-test.true c.down.invariant.place c.index-facts-k.is in
    record { is = omega (arith, e, c.down.invariant.is, c.if-one-most.false); bound = c.down.invariant.bound; place = omega (arith, c.down.invariant.place) }

pub returns-clause-each : goal.returns-clause-each
returns-clause-each c = λ k d lt.
    let all : c.down.k ≡ 0 = omega (arith, c.down-test.false) in
    let is : c.down.most ≡ above (map rank_in c.args.facts.now) = c.down.invariant.is ∙ ap (λ n. above (map rank_in (drop n c.args.facts.now))) all in
    omega (arith, is, above-all c.args.facts.now k d lt)
