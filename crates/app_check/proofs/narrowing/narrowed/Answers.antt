use Rattle.app_check.proofs.NarrowedExports.{pushed_more}
use Rattle.app_check.proofs.narrowing.narrowed.Goals as goal

pub loop-place-preserved : goal.loop-place-preserved
loop-place-preserved c =
    pushed_more c.args.dropped.now c.args.used.now c.loop-place.exports c.push.new.self c.loop-place.place _ _ c.is_left_out.result c.loop-place-test.true c.requires c.loop-place.invariant c.in_ok-push.ensures.ok
    c.is_left_out.ensures
