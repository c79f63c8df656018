-- None so far, one more, or this one.
use Rattle.std.proofs.Common.{arith}
use Rattle.pair_rules.proofs.lemmas.Lists.{any_is}
use Rattle.type_notes.proofs.AnyLemmas.{any_all, any_more}
use Rattle.type_notes.proofs.sign.is_some_negative.Goals as goal

pub returns-then-is_negative : goal.returns-then-is_negative
returns-then-is_negative c = grind (arith, any_is)

pub loop-k-preserved : goal.loop-k-preserved
loop-k-preserved c = grind (arith, any_more)

pub returns : goal.returns
returns c = grind (arith, any_all)
