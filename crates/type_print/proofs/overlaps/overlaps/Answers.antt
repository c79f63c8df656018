use Rattle.std.proofs.Common.{◌≡◌, ◌<◌, ℕ, length, sym, subst, arith}
use Rattle.type_print.specs.Rows.{AreExactly, key_of}
use Rattle.type_print.proofs.OverlapLemmas.{IsOverlapUpto, overlapped_start, overlapped_more, overlaps_start, overlaps_more, overlaps_end}
use Rattle.type_print.proofs.overlaps.overlaps.Goals as goal

pub walk-init : goal.walk-init
walk-init c = record {
  kept = overlapped_start c.args.members.now c.requires;
  rows = λ all names. subst (AreExactly (IsOverlapUpto c.args.members.now 0) (key_of all)) (sym c.new-rows.ensures.items) (overlaps_start c.args.members.now c.requires all);
}

pub walk-preserved : goal.walk-preserved
walk-preserved c =
    let sorted = c.args.members.now in
    let inside : c.walk.k < length c.args.members.now = omega arith in
    record {
      kept = overlapped_more sorted c.requires c.walk.k c.walk.first c.first_past-first.result inside c.walk.invariant.kept c.first_past-first.ensures.inside c.first_past-first.ensures.before c.first_past-first.ensures.past;
      rows = λ all names.
          overlaps_more sorted c.requires c.walk.k c.walk.first c.first_past-first.result inside c.walk.invariant.kept c.first_past-first.ensures.inside c.first_past-first.ensures.before c.first_past-first.ensures.past all names
          c.walk.rows.items (c.walk.invariant.rows all names) c.push_overlap.new.rows.items c.in_ok-push_overlap.ensures.added;
    }

pub returns-clause-exact : goal.returns-clause-exact
returns-clause-exact c = λ all names.
    let done : c.walk.k ≡ length c.args.members.now = omega arith in
    let P : ℕ → Type 0 = λ k. AreExactly (IsOverlapUpto c.args.members.now k) (key_of all) c.walk.rows.items in
    overlaps_end c.args.members.now c.requires all c.walk.rows.items (subst P done (c.walk.invariant.rows all names))
