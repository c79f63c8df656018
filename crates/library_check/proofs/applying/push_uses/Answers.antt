use Rattle.std.specs.Prelude.{string_bytes}
use Rattle.library_check.proofs.AppLemmas.{pushed_more}
use Rattle.library_check.proofs.applying.push_uses.Goals as goal

pub loop-place-preserved : goal.loop-place-preserved
loop-place-preserved c =
    pushed_more c.args.exports.now c.args.dropped.now c.loop-place.place c.requires _ _ (string_bytes c.args.text.now) (string_bytes c.loop-place.text) (string_bytes c.push_use.new.text) c.loop-place-test.true
    c.loop-place.invariant c.in_ok-push_use.ensures
