-- A part that breaks a rule, and none that does.
use Rattle.std.proofs.Common.{length, sym, arith}
use Rattle.pair_rules.specs.Keeping.{keeps_part, keeps_parts}
use Rattle.pair_rules.proofs.Ranges.{list_all-below, list_all-below_fails}
use Rattle.pair_rules.proofs.rules.keeps_parts.Goals as goal

pub returns-then-not-keeps_part : goal.returns-then-not-keeps_part
unfolding keeps_parts
returns-then-not-keeps_part c =
    sym (list_all-below_fails (keeps_part c.args.old.now c.args.new.now) (length c.args.old.now.parts) c.walk.i (omega arith) (sym c.if-not-keeps_part.ensures))

pub returns : goal.returns
unfolding keeps_parts
returns c = sym (list_all-below (keeps_part c.args.old.now c.args.new.now) (length c.args.old.now.parts) (λ k h. c.walk.invariant k (omega arith)))
