-- A line more, where there is one.
use Rattle.std.proofs.Common.{sym, ◌∙◌, arith}
use Rattle.cert_check.specs.Compatible.{sides}
use Rattle.pair_compare.proofs.certificates_lemmas.BindLemmas.{binds-zero, binds-more, binds-all}
use Rattle.pair_compare.proofs.certificates.binds.bind_lines.Goals as goal

pub loop-k-init : goal.loop-k-init
loop-k-init c = c.new-lines.ensures ∙ sym (binds-zero (sides c.args.old.now c.args.new.now c.args.marks.now))

pub loop-k-preserved : goal.loop-k-preserved
loop-k-preserved c =
    binds-more c.lines_stand_in_the_order_of_their_numbers.ensures (sides c.args.old.now c.args.new.now c.args.marks.now) c.loop-k.k c.bind_line-line.result c.loop-k.lines c.push_some.new.list c.loop-k.invariant c.bind_line-line.ensures c.in_ok-push_some.ensures.appended

pub returns-clause-lines : goal.returns-clause-lines
returns-clause-lines c = binds-all (sides c.args.old.now c.args.new.now c.args.marks.now) c.loop-k.k c.loop-k.lines (omega arith) c.loop-k.invariant
