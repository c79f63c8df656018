-- Eightbyte by eightbyte.
use Rattle.std.proofs.Common.{◌≡◌, ◌-◌, ◌+◌, sym, arith}
use Rattle.psabi.specs.Cleanup.{is_upper_at}
use Rattle.psabi.proofs.Ranges.{all-range-more, all-range-at}
use Rattle.psabi.proofs.cleanup.rest_are_upper.Goals as goal

pub returns-then-not-is_upper : goal.returns-then-not-is_upper
returns-then-not-is_upper c = sym (all-range-at (is_upper_at c.args.classes.now) 1 (c.args.count - 1) (c.loop-k.k - 1) c.loop-k.k (omega arith) (omega arith) (cc))

pub loop-k-preserved : goal.loop-k-preserved
loop-k-preserved c =
    let same : c.loop-k.k + 1 - 1 ≡ c.loop-k.k - 1 + 1 = omega arith in
    rw same (all-range-more (is_upper_at c.args.classes.now) 1 (c.loop-k.k - 1) c.loop-k.k (omega arith) c.loop-k.invariant (cc))

pub returns : goal.returns
returns c =
    let end : c.loop-k.k - 1 ≡ c.args.count - 1 = omega (arith, c.loop-k.auto.k-end) in
    sym (rw end at c.loop-k.invariant)
