-- One slot more.
use Rattle.std.proofs.Common.{◌∙◌}
use Rattle.report.proofs.TextLemmas.{pieces_more}
use Rattle.report.proofs.place.push_registers.Goals as goal

pub loop-k-preserved : goal.loop-k-preserved
loop-k-preserved c = c.in_ok-push_slot.ensures ∙ pieces_more _ _ _ c.loop-k.k c.loop-k.invariant
