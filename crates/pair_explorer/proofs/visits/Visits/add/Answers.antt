-- A triple that is there keeps what led to it, and a new one goes last.
use Rattle.std.proofs.Common.{List, refl, sym, subst}
use Rattle.pair_explorer.specs.declared.visits.Visit.{Visit}
use Rattle.pair_explorer.specs.Keys.{AreKnown}
use Rattle.pair_explorer.proofs.Keyed.{added-new, added-there}
use Rattle.pair_explorer.proofs.visits.Visits.add.Goals as goal

pub returns-in_ok-push-clause-added : goal.returns-in_ok-push-clause-added
returns-in_ok-push-clause-added c =
    added-new c.args.self.now c.self.inside.list.items c.reserve.new.self.items c.push.new.self.items c.args.visit.now c.in_ok-put.field-0 c.self.view_is c.in_ok-reserve.ensures.items (c.in_ok-put.ensures.is_new c.self.inside.list.items c.self.invariant) c.if-branch.true c.in_ok-push.ensures.items

pub returns-else-branch-clause-added : goal.returns-else-branch-clause-added
returns-else-branch-clause-added c =
    added-there c.args.self.now c.self.inside.list.items c.reserve.new.self.items c.args.visit.now c.in_ok-put.field-0 c.self.view_is c.in_ok-reserve.ensures.items (c.in_ok-put.ensures.is_new c.self.inside.list.items c.self.invariant) c.if-branch.false

pub invariant_of-self-in-Continue-branch-3 : goal.invariant_of-self-in-Continue-branch-3
invariant_of-self-in-Continue-branch-3 c =
    let items = c.self.inside.list.items in
    let P : List Visit → Type 0 = λ visits. AreKnown c.put.new.known visits in
    let pushed =
    added-new items items c.reserve.new.self.items c.push.new.self.items c.args.visit.now c.in_ok-put.field-0 refl c.in_ok-reserve.ensures.items (c.in_ok-put.ensures.is_new items c.self.invariant) c.if-branch.true c.in_ok-push.ensures.items in
    subst P (sym pushed) (c.in_ok-put.ensures.known items c.self.invariant)

pub invariant_of-self-else-branch : goal.invariant_of-self-else-branch
invariant_of-self-else-branch c =
    let items = c.self.inside.list.items in
    let P : List Visit → Type 0 = λ visits. AreKnown c.put.new.known visits in
    let kept = added-there items items c.reserve.new.self.items c.args.visit.now c.in_ok-put.field-0 refl c.in_ok-reserve.ensures.items (c.in_ok-put.ensures.is_new items c.self.invariant) c.if-branch.false in
    subst P (sym kept) (c.in_ok-put.ensures.known items c.self.invariant)
