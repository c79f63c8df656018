use Rattle.std.proofs.Common.{rules}
use Rattle.trial_libraries.proofs.Ranges.{pieces_more}
use Rattle.trial_libraries.proofs.units.put_structures.Goals as goal

pub loop-number-preserved : goal.loop-number-preserved
loop-number-preserved c = search (rules, pieces_more)
