-- Eightbyte by eightbyte.
use Rattle.std.proofs.Common.{◌≡◌, sym, arith}
use Rattle.psabi.specs.Cleanup.{is_lone_x87_up, has_lone_x87_up}
use Rattle.psabi.proofs.Ranges.{any-range-more, any-range-at}
use Rattle.psabi.proofs.cleanup.has_lone_x87_up.Goals as goal

pub returns-then-is_lone_x87_up : goal.returns-then-is_lone_x87_up
unfolding has_lone_x87_up
returns-then-is_lone_x87_up c = sym (any-range-at (is_lone_x87_up c.args.classes.now) 0 8 c.loop-k.k c.loop-k.k (omega arith) (omega arith) (cc))

pub loop-k-preserved : goal.loop-k-preserved
loop-k-preserved c = any-range-more (is_lone_x87_up c.args.classes.now) 0 c.loop-k.k c.loop-k.k (omega arith) c.loop-k.invariant (cc)

pub returns : goal.returns
unfolding has_lone_x87_up
returns c =
    let end : c.loop-k.k ≡ 8 = omega arith in
    sym (rw end at c.loop-k.invariant)
