use Rattle.std.proofs.Common.{◌<◌, ◌∙◌, length, map, sym}
use Rattle.std.proofs.lemmas.List.{get_or-map, length-map}
use Rattle.explain.proofs.NameLemmas.{more_at, same_at}
use Rattle.explain.proofs.tags.push_names.Goals as goal
use Rattle.explain.proofs.tags.push_names.Goals.{then-branch, else-branch}

pub loop-name-preserved : goal.loop-name-preserved
loop-name-preserved c =
    let inside : c.loop-name.name-index < length (map (λ name. name.now) c.args.names.now) = rw length-map c.loop-name-test.true in
    elim c.if-branch.branch [
      | then-branch w ↦
          more_at c.args.first.now (map (λ name. name.now) c.args.names.now) c.loop-name.name-index _ _ _ _ _ c.loop-name.is_first c.if-branch.is_first inside
          (get_or-map (λ name. name.now) c.args.names.now c.loop-name.name-index _ _ c.loop-name-test.true) c.loop-name.invariant (sym c.in_ok-push_name.ensures.is ∙ w.if-branch.true) c.before_name.ensures
          c.in_ok-push_name.ensures.text w.is_first-is
      | else-branch w ↦
          same_at c.args.first.now (map (λ name. name.now) c.args.names.now) c.loop-name.name-index _ _ _ _ _ c.loop-name.is_first c.if-branch.is_first inside
          (get_or-map (λ name. name.now) c.args.names.now c.loop-name.name-index _ _ c.loop-name-test.true) c.loop-name.invariant (sym c.in_ok-push_name.ensures.is ∙ w.if-branch.false) c.before_name.ensures
          c.in_ok-push_name.ensures.text w.is_first-is
    ]
