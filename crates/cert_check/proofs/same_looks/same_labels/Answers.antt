use Rattle.std.proofs.Common.{sym}
use Rattle.abi_types.specs.Plain.{plain_label}
use Rattle.cert_check.proofs.LookLemmas.{labels_other, labels_more, loop_all}
use Rattle.cert_check.proofs.same_looks.same_labels.Goals as goal

pub returns-then-not-same_label : goal.returns-then-not-same_label
returns-then-not-same_label c = labels_other c.args.one.now c.args.other.now c.loop-k.k _ _ c.loop-k-test.true c.if-one-other.false (sym c.if-not-same_label.ensures)

pub loop-k-preserved : goal.loop-k-preserved
loop-k-preserved c = labels_more c.args.one.now c.args.other.now c.loop-k.k _ _ c.loop-k-test.true c.if-one-other.false c.loop-k.invariant (sym c.if-not-same_label.ensures)

pub returns : goal.returns
returns c = loop_all plain_label c.args.one.now c.args.other.now c.loop-k.k c.loop-k-test.false c.if-one-other.false c.loop-k.invariant
