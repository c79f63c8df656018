-- One more place, where nothing stands.
use Rattle.psabi.proofs.FoundLemmas.{none-more}
use Rattle.psabi.proofs.found.room_for.Goals as goal

pub loop-k-preserved : goal.loop-k-preserved
loop-k-preserved c = λ i. rw (c.in_ok-push.ensures.items, c.nothing_found.ensures) (none-more c.loop-k.found.items c.loop-k.invariant i)
