-- None so far, one more, or this one.
use Rattle.std.proofs.Common.{arith}
use Rattle.pair_rules.proofs.lemmas.Lists.{any_is}
use Rattle.type_notes.proofs.AnyLemmas.{any_all, any_more}
use Rattle.type_notes.proofs.packing.is_packed.Goals as goal

pub returns-then-stands_off : goal.returns-then-stands_off
returns-then-stands_off g c = grind (arith, any_is)

pub loop-k-preserved : goal.loop-k-preserved
loop-k-preserved g c = grind (arith, any_more)

pub returns : goal.returns
returns g c = grind (arith, any_all)
