-- One label more is the same.
use Rattle.type_classes.proofs.SameLemmas.{labels_next, labels_all}
use Rattle.type_classes.proofs.same.same_labels.Goals as goal

pub loop-k-preserved : goal.loop-k-preserved
loop-k-preserved c = labels_next c.args.one.now c.args.other.now c.loop-k.k _ _ c.loop-k-test.true c.if-one-other.false c.loop-k.invariant (c.same_label.ensures c.if-not-same_label.false)

pub returns : goal.returns
returns c t = labels_all c.args.one.now c.args.other.now c.loop-k.k c.loop-k-test.false c.if-one-other.false c.loop-k.invariant
