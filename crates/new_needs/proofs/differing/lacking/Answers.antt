use Rattle.std.proofs.Common.{List, ◌++◌, ◌∙◌, sym, ap, subst, take}
use Rattle.std.proofs.lemmas.List.{append-nil}
use Rattle.new_needs.specs.Needed.{PlainNeeded}
use Rattle.new_needs.specs.Plain.{plain_all}
use Rattle.new_needs.specs.Seen.{AreSeen}
use Rattle.new_needs.proofs.SeenLemmas.{kept_so_far, lacking_none, left_so_far, seen_so_far}
use Rattle.new_needs.proofs.differing.lacking.Goals as goal
use Rattle.new_needs.proofs.differing.lacking.Goals.{then-branch+in_ok-push, else-branch}

pub loop-needed-init : goal.loop-needed-init
loop-needed-init c = record {
  seen = subst (λ (l : List PlainNeeded). AreSeen l c.in_ok-seen.seen) (sym (append-nil (plain_all c.args.old.now))) c.in_ok-seen.ensures.all;
  kept = ap plain_all c.new-kept.ensures.items ∙ sym (lacking_none (plain_all c.args.old.now));
}

pub loop-needed-preserved : goal.loop-needed-preserved
loop-needed-preserved c =
    let before : List PlainNeeded = plain_all c.args.old.now ++ plain_all (take c.loop-needed.needed-index c.args.new.now) in
    record {
      seen =
          seen_so_far c.args.new.now c.loop-needed.needed-index _ c.loop-needed-test.true (plain_all c.args.old.now) c.see.new.seen
          (c.in_ok-see.ensures.seen before c.loop-needed.invariant.seen);
      kept =
          elim c.if-branch.branch [
            | then-branch+in_ok-push w ↦
                kept_so_far c.args.new.now c.loop-needed.needed-index _ c.loop-needed-test.true (plain_all c.args.old.now) c.loop-needed.kept.items c.if-branch.kept.items c.in_ok-see.field-0
                c.loop-needed.invariant.kept (c.in_ok-see.ensures.new before c.loop-needed.invariant.seen) w.if-branch.true (ap (λ v. v.items) w.kept-is ∙ w.in_ok-push.ensures.items)
            | else-branch w ↦
                ap (λ v. plain_all v.items) w.kept-is
                ∙ left_so_far c.args.new.now c.loop-needed.needed-index _ c.loop-needed-test.true (plain_all c.args.old.now) c.loop-needed.kept.items c.in_ok-see.field-0
                c.loop-needed.invariant.kept (c.in_ok-see.ensures.new before c.loop-needed.invariant.seen) w.if-branch.false
          ];
    }
