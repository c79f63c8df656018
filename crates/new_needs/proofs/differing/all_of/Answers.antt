use Rattle.std.proofs.Common.{[], take}
use Rattle.new_needs.specs.Plain.{plain_all}
use Rattle.new_needs.proofs.SeenLemmas.{seen_so_far}
use Rattle.new_needs.proofs.differing.all_of.Goals as goal

pub loop-needed-preserved : goal.loop-needed-preserved
loop-needed-preserved c =
    seen_so_far c.args.list.now c.loop-needed.needed-index _ c.loop-needed-test.true [] c.see.new.seen
    (c.in_ok-see.ensures.seen (plain_all (take c.loop-needed.needed-index c.args.list.now)) c.loop-needed.invariant)
