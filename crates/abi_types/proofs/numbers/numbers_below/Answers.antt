use Rattle.std.proofs.Common.{◌∙◌, ◌++◌, ◌∷◌, [], ℕ, List, sym, ap, arith}
use Rattle.abi_base.proofs.lemmas.Ranges.{range_more_to}
use Rattle.abi_types.proofs.numbers.numbers_below.Goals as goal

pub loop-i-preserved : goal.loop-i-preserved
loop-i-preserved c = c.in_ok-push.ensures.items ∙ ap (λ (ns : List ℕ). ns ++ c.loop-i.i ∷ []) c.loop-i.invariant ∙ sym (range_more_to 0 c.loop-i.i c.loop-i.i (omega arith))
