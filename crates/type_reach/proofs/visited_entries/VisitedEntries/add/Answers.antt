use Rattle.std.proofs.Common.{◌<◌, ◌∙◌, true, false, length, set, sym, ap, subst, arith}
use Rattle.std.proofs.lemmas.List.{get_or_read, length-set}
use Rattle.type_reach.specs.VisitedEntries.{PlainVisited, AreMarked}
use Rattle.type_reach.proofs.MetLemmas.{AreMarked-more}
use Rattle.type_reach.proofs.visited_entries.VisitedEntries.add.Goals as goal

pub invariant_of-self-then-not-index : goal.invariant_of-self-then-not-index
invariant_of-self-then-not-index c =
    let marks = c.self.inside.marks.items in
    let e = c.args.e in
    let inside : e < length marks = omega (arith, c.requires, ap (λ (m : PlainVisited). m.room) c.self.view_is) in
    let new = sym (get_or_read marks e c.index.result.now inside (rw c.index-place.ensures at c.index.ensures) false) ∙ c.if-not-index.true in rw c.index-place.ensures (
      subst (AreMarked (set marks e true)) (sym c.in_ok-push.ensures.items) (AreMarked-more marks c.self.inside.entries.items e inside new c.self.invariant.0),
      omega (arith, c.self.invariant.1, length-set marks e true),
    )
