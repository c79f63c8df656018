-- Each type is learned once, after those to which it leads by value.
use Rattle.std.proofs.Common.{◌≡◌, ◌<◌, ◌+◌, ◌-◌, ◌∙◌, Some, None, length, get_or, sym, ap, subst, arith, suc}
use Rattle.std.specs.Prelude.{Contains, All, IfSome, IfNone}
use Rattle.std.proofs.lemmas.List.{get_or_default}
use Rattle.std.proofs.lemmas.Option.{IfSome_then}
use Rattle.std.proofs.lemmas.List.Elements.{All-more, All-push}
use Rattle.abi_base.specs.Limits.{depth_limit}
use Rattle.type_reach.specs.declared.facts.Facts.{Facts}
use Rattle.type_reach.specs.References.{Type_}
use Rattle.type_reach.specs.ByValue.{StepsOn}
use Rattle.type_reach.specs.Facts.{AreFacts, facts_from, facts_of, IsSpanNear}
use Rattle.type_reach.proofs.ByValueLemmas.{StepsOn-none, StepsOn-more, StepsOn-fewer}
use Rattle.type_reach.proofs.FactLemmas.{facts_of-void, rank_of, rank-most, rank-leads, rank-bound, known_there, step_there, step_at, facts-more, IsLearned-end, AreFacts-more, void_ends}
use Rattle.type_reach.proofs.LearnLemmas.{IfNone-weaker}
use Rattle.type_reach.proofs.learning.+learn.Goals as goal

pub returns-in-None-clause-facts : goal.returns-in-None-clause-facts
returns-in-None-clause-facts t c = sym (ap (facts_of c.args.types.now.dwarf.now) c.in-None.is ∙ facts_of-void c.args.types.now.dwarf.now)

pub returns-in-None-clause-few : goal.returns-in-None-clause-few
returns-in-None-clause-few t c = λ on. void_ends c.args.types.now.dwarf.now.tree (c.args.budget + 1) c.args.ty (omega arith) c.in-None.is on

pub number_of-number-requires : goal.number_of-number-requires
number_of-number-requires t c = subst (λ o. IfSome o (λ x. Contains c.args.types.now.found.now x)) c.in-Some.is c.requires.there

pub returns-in-Some-index-clause-facts : goal.returns-in-Some-index-clause-facts
returns-in-Some-index-clause-facts t c =
    let d = c.args.types.now.dwarf.now in
    let known = known_there d c.args.types.now.found.now c.args.known.now.items c.number_of-number.result c.in-Some.e c.index.result.now c.in-Some-index.before c.requires.known c.requires.len c.number_of-number.ensures c.index.ensures c.in-Some-index.is in
    IfSome_then c.within.result c.within.ensures.same (λ x is. is ∙ known.is ∙ ap (facts_of d) (sym c.in-Some.is))

pub returns-in-Some-index-clause-near : goal.returns-in-Some-index-clause-near
returns-in-Some-index-clause-near t c =
    let d = c.args.types.now.dwarf.now in
    let known = known_there d c.args.types.now.found.now c.args.known.now.items c.number_of-number.result c.in-Some.e c.index.result.now c.in-Some-index.before c.requires.known c.requires.len c.number_of-number.ensures c.index.ensures c.in-Some-index.is in
    IfSome_then c.within.result c.within.ensures.same (λ x is. subst IsSpanNear (sym is) known.near)

pub returns-in-Some-index-clause-few : goal.returns-in-Some-index-clause-few
returns-in-Some-index-clause-few t c =
    let d = c.args.types.now.dwarf.now in
    let known = known_there d c.args.types.now.found.now c.args.known.now.items c.number_of-number.result c.in-Some.e c.index.result.now c.in-Some-index.before c.requires.known c.requires.len c.number_of-number.ensures c.index.ensures c.in-Some-index.is in
    let is : c.in-Some-index.before.rank ≡ rank_of d (Some c.in-Some.e) = ap (λ (x : Facts). x.rank) known.is in
    IfSome_then c.within.result c.within.ensures.few (λ x le on.
    let most = rank-most d (c.args.budget + 1) (Some c.in-Some.e) known.shallow (subst (StepsOn d.tree (c.args.budget + 1)) c.in-Some.is on) in
    omega (arith, most, is, le))

pub returns-in-Some-index-clause-many : goal.returns-in-Some-index-clause-many
returns-in-Some-index-clause-many t c =
    let d = c.args.types.now.dwarf.now in
    let known = known_there d c.args.types.now.found.now c.args.known.now.items c.number_of-number.result c.in-Some.e c.index.result.now c.in-Some-index.before c.requires.known c.requires.len c.number_of-number.ensures c.index.ensures c.in-Some-index.is in
    let is : c.in-Some-index.before.rank ≡ rank_of d (Some c.in-Some.e) = ap (λ (x : Facts). x.rank) known.is in
    IfNone-weaker c.within.result
    (λ past. subst (StepsOn d.tree (c.args.budget + 1)) (sym c.in-Some.is) (StepsOn-fewer d.tree (c.args.budget + 1) (rank_of d (Some c.in-Some.e)) (Some c.in-Some.e) (omega (arith, is, past)) (rank-leads d (Some c.in-Some.e) known.shallow)))
    c.within.ensures.many

pub role_of-requires : goal.role_of-requires
role_of-requires t c = c.requires.closed.inside c.in-Some.e (subst (λ o. IfSome o (λ x. Contains c.args.types.now.found.now x)) c.in-Some.is c.requires.there)

pub parts_at-parts-requires-clause-at : goal.parts_at-parts-requires-clause-at
parts_at-parts-requires-clause-at t c = c.number_of-number.ensures

pub types_at-leads_to-requires-clause-at : goal.types_at-leads_to-requires-clause-at
types_at-leads_to-requires-clause-at t c = c.number_of-number.ensures

pub returns-then-budget-eq0-clause-many : goal.returns-then-budget-eq0-clause-many
returns-then-budget-eq0-clause-many t c =
    let d = c.args.types.now.dwarf.now in
    let items = c.steps_among-steps.result.now in
    let lt : c.steps.k < length items = c.steps-test.true in
    let s : Type_ = get_or items c.steps.k None in
    let has = step_at d.tree c.in-Some.e items c.steps.k s c.steps_among-steps.ensures lt (get_or_default items c.steps.k None s lt) in
    let one : suc 0 ≡ c.args.budget + 1 = omega (arith, c.if-budget-eq0.true) in
    subst (StepsOn d.tree (c.args.budget + 1)) (sym c.in-Some.is) (subst (λ n. StepsOn d.tree n (Some c.in-Some.e)) one (StepsOn-more d.tree 0 (Some c.in-Some.e) s has (StepsOn-none d.tree s)))

pub learn-requires : goal.learn-requires
learn-requires t c =
    let d = c.args.types.now.dwarf.now in
    let there = subst (λ o. IfSome o (λ x. Contains c.args.types.now.found.now x)) c.in-Some.is c.requires.there in
    let items = c.steps_among-steps.result.now in
    let lt : c.steps.k < length items = c.steps-test.true in
    let s = c.index-steps-k.result in
    let has = step_at d.tree c.in-Some.e items c.steps.k s c.steps_among-steps.ensures lt c.index-steps-k.is in
    let some : 0 < c.args.budget = omega (arith, c.if-budget-eq0.false) in
    (omega (arith, c.decreases, some), (c.requires.closed, (c.requires.leads, (c.steps.invariant.known, (c.steps.invariant.len, (step_there d.tree c.args.types.now.found.now c.in-Some.e s c.requires.closed there has, omega (arith, c.requires.budget)))))))

pub returns-in-None-2-clause-many : goal.returns-in-None-2-clause-many
returns-in-None-2-clause-many t c =
    let d = c.args.types.now.dwarf.now in
    let items = c.steps_among-steps.result.now in
    let lt : c.steps.k < length items = c.steps-test.true in
    let s = c.index-steps-k.result in
    let has = step_at d.tree c.in-Some.e items c.steps.k s c.steps_among-steps.ensures lt c.index-steps-k.is in
    let on = subst (λ o. IfNone o (StepsOn d.tree (c.args.budget - 1 + 1) s)) c.in-None-2.is c.in_ok-one.ensures.many in
    let is : suc (c.args.budget - 1 + 1) ≡ c.args.budget + 1 = omega (arith, c.if-budget-eq0.false) in
    subst (StepsOn d.tree (c.args.budget + 1)) (sym c.in-Some.is) (subst (λ n. StepsOn d.tree n (Some c.in-Some.e)) is (StepsOn-more d.tree (c.args.budget - 1 + 1) (Some c.in-Some.e) s has on))

pub steps-preserved : goal.steps-preserved
steps-preserved t c =
    let d = c.args.types.now.dwarf.now in
    let items = c.steps_among-steps.result.now in
    let k = c.steps.k in
    let lt : k < length items = c.steps-test.true in
    let s = c.index-steps-k.result in
    let read : s ≡ get_or items k s = c.index-steps-k.is in
    let was = c.steps.invariant in
    let is = subst (λ o. IfSome o (λ x. x ≡ facts_of d s)) c.in-Some-2.is c.in_ok-one.ensures.facts in
    let few = subst (λ o. IfSome o (λ x. StepsOn d.tree (c.args.budget - 1 + 1) s → ⊥)) c.in-Some-2.is c.in_ok-one.ensures.few in
    let back : c.args.budget - 1 + 1 ≡ c.args.budget = omega (arith, c.if-budget-eq0.false) in
    let fewer : StepsOn d.tree c.args.budget s → ⊥ = subst (λ n. StepsOn d.tree n s → ⊥) back few in
    let bound = rank-bound d (c.args.budget - 1) s (omega (arith, c.requires.budget)) few in
    let rank_is : c.in-Some-2.one.rank ≡ rank_of d s = ap (λ (x : Facts). x.rank) is in
    let below : c.in-Some-2.one.rank < depth_limit = omega (arith, bound, rank_is, c.requires.budget, back) in
    let none : Type_ → Type 0 = λ x. StepsOn d.tree c.args.budget x → ⊥ in
    record {
      facts = facts-more d items k s c.steps.of_steps.items c.push.new.self.items c.in-Some-2.one was.facts lt read is c.in_ok-push-in-Some-2.ensures.items;
      ranks = subst (All (λ (x : Facts). x.rank < depth_limit)) (sym c.in_ok-push-in-Some-2.ensures.items) (All-push (λ (x : Facts). x.rank < depth_limit) c.steps.of_steps.items c.in-Some-2.one was.ranks below);
      near = subst (All IsSpanNear) (sym c.in_ok-push-in-Some-2.ensures.items) (All-push IsSpanNear c.steps.of_steps.items c.in-Some-2.one was.near (subst (λ o. IfSome o IsSpanNear) c.in-Some-2.is c.in_ok-one.ensures.near));
      few = All-more none items k s lt was.few (subst none read fewer);
      known = c.in_ok-one.ensures.known;
      len = c.in_ok-one.ensures.len;
    }

pub combine-requires-clause-inside : goal.combine-requires-clause-inside
combine-requires-clause-inside t c = c.requires.closed.inside c.in-Some.e (subst (λ o. IfSome o (λ x. Contains c.args.types.now.found.now x)) c.in-Some.is c.requires.there)

pub returns-clause-known : goal.returns-clause-known
returns-clause-known t c =
    let d = c.args.types.now.dwarf.now in
    let at = c.number_of-number.ensures in
    let made = IsLearned-end d c.args.budget c.in-Some.e c.steps.k c.steps_among-steps.result.now c.steps.of_steps.items c.in_ok-made.made c.requires.budget c.steps_among-steps.ensures c.steps-test.false c.steps.invariant.facts c.steps.invariant.few (c.in_ok-made.ensures.is ∙ ap (facts_from d (Some c.in-Some.e)) c.as_slice.ensures.value) in
    subst (AreFacts d c.args.types.now.found.now) (sym c.note.ensures) (AreFacts-more d c.args.types.now.found.now c.steps.known.items c.number_of-number.result c.in-Some.e c.in_ok-made.made c.steps.invariant.known at made.is made.shallow c.in_ok-made.ensures.near)

pub returns-clause-facts : goal.returns-clause-facts
returns-clause-facts t c =
    let d = c.args.types.now.dwarf.now in
    let made = IsLearned-end d c.args.budget c.in-Some.e c.steps.k c.steps_among-steps.result.now c.steps.of_steps.items c.in_ok-made.made c.requires.budget c.steps_among-steps.ensures c.steps-test.false c.steps.invariant.facts c.steps.invariant.few (c.in_ok-made.ensures.is ∙ ap (facts_from d (Some c.in-Some.e)) c.as_slice.ensures.value) in
    made.is ∙ ap (facts_of d) (sym c.in-Some.is)

pub returns-clause-few : goal.returns-clause-few
returns-clause-few t c =
    let d = c.args.types.now.dwarf.now in
    let made = IsLearned-end d c.args.budget c.in-Some.e c.steps.k c.steps_among-steps.result.now c.steps.of_steps.items c.in_ok-made.made c.requires.budget c.steps_among-steps.ensures c.steps-test.false c.steps.invariant.facts c.steps.invariant.few (c.in_ok-made.ensures.is ∙ ap (facts_from d (Some c.in-Some.e)) c.as_slice.ensures.value) in
    λ on. made.few (subst (StepsOn d.tree (c.args.budget + 1)) c.in-Some.is on)
