-- The classes that are still listed are to be split.
use Rattle.std.proofs.Common.{vec_len}
use Rattle.type_classes.proofs.BlockSplits.{IsSplitting}
use Rattle.type_classes.proofs.blocks.Blocks.split.Given as goal

abbrev pub invariant-touched : goal.invariant-touched
invariant-touched l = IsSplitting l.fn.self l.self

abbrev pub decreases-touched : goal.decreases-touched
decreases-touched l = vec_len l.self.touched
