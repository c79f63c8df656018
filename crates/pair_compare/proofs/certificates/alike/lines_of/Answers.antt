-- A line more, where the node does not stand for its class.
use Rattle.std.proofs.Common.{sym, ◌∙◌, ◌^◌}
use Rattle.abi_base.proofs.lemmas.Lists.{All-none}
use Rattle.cert_text.specs.Certs.{IsBelow}
use Rattle.pair_compare.proofs.certificates_lemmas.FoundLemmas.{alike-zero, alike-more, below_pushed}
use Rattle.pair_compare.proofs.certificates.alike.lines_of.Goals as goal

pub loop-number-init : goal.loop-number-init
loop-number-init g c = (c.new-lines.ensures ∙ sym (alike-zero c.args.classes.now), All-none (IsBelow (2 ^ 64)) c.new-lines.result c.new-lines.ensures)

pub loop-number-preserved : goal.loop-number-preserved
loop-number-preserved g c = (
  alike-more c.lines_stand_in_the_order_of_their_numbers.ensures c.args.classes.now c.loop-number.number c.alike_line-line.result c.loop-number.lines c.push_some.new.list c.loop-number.invariant.0 c.alike_line-line.ensures.line c.in_ok-push_some.ensures.appended,
  below_pushed (IsBelow (2 ^ 64)) c.loop-number.lines c.push_some.new.list c.alike_line-line.result c.loop-number.invariant.1 c.alike_line-line.ensures.numbers c.in_ok-push_some.ensures.appended,
)
