-- One more eightbyte.
use Rattle.std.proofs.Common.{◌≡◌, arith, refl, length-set}
use Rattle.std.specs.Prelude.{◌&&◌}
use Rattle.psabi.specs.Touching.{is_aligned}
use Rattle.psabi.specs.Merging.{merge_leaf}
use Rattle.psabi.proofs.Merges.{and-one, below-more, above-less}
use Rattle.psabi.proofs.eightbytes.Eightbytes.add.Goals as goal
use Rattle.psabi.proofs.eightbytes.Eightbytes.add.Goals.{then-before, else-before}

pub loop-k-preserved : goal.loop-k-preserved
loop-k-preserved c =
    let many = c.loop-k.invariant.many in
    record {
      aligned = c.loop-k.invariant.aligned;
      many = simp length-set many;
      below = below-more (λ j d. merge_leaf j d c.args.leaf) c.loop-k.self.classes c.args.self.now.classes c.loop-k.k c.with_leaf.result (omega arith) c.with_leaf.ensures c.loop-k.invariant.below;
      above = above-less c.loop-k.self.classes c.args.self.now.classes c.loop-k.k c.with_leaf.result c.loop-k.invariant.above;
    }

pub returns : goal.returns
returns c =
    let e : c.if-before.self ≡ (c.args.self.now.aligned && is_aligned c.args.leaf) = elim c.if-before.branch [ then-before w ↦ rw (w.self-is, w.if-before.true) w.is_aligned-self.ensures | else-before w ↦ rw (w.self-is, w.if-before.false) refl ] in
    record {
      aligned = and-one c.args.self.now.aligned (is_aligned c.args.leaf) c.if-before.self e;
      many = λ e. c.loop-k.invariant.many;
      classes = λ k lt. c.loop-k.invariant.below k (omega arith);
    }
