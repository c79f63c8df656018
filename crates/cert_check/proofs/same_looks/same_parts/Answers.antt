use Rattle.std.proofs.Common.{sym, ◌∙◌, arith}
use Rattle.abi_types.specs.ClassLooks.{part_seen}
use Rattle.cert_check.specs.Accepted.{class_in}
use Rattle.cert_check.proofs.LookLemmas.{parts_other, parts_more, loop_all}
use Rattle.cert_check.proofs.same_looks.same_parts.Goals as goal

pub returns-then-not-same_part : goal.returns-then-not-same_part
returns-then-not-same_part g c =
    parts_other (class_in c.args.graph.now c.args.lines.now) c.args.one.now c.args.other.now c.loop-k.k _ _ c.part.ensures c.part-in-loop-k.ensures (omega (arith, c.parts_len-k-end.ensures, c.loop-k-test.true)) (sym c.parts_len.ensures ∙ c.if-parts_len.false ∙ c.parts_len-2.ensures) (sym c.if-not-same_part.ensures)

pub loop-k-preserved : goal.loop-k-preserved
loop-k-preserved g c =
    parts_more (class_in c.args.graph.now c.args.lines.now) c.args.one.now c.args.other.now c.loop-k.k _ _ c.part.ensures c.part-in-loop-k.ensures (omega (arith, c.parts_len-k-end.ensures, c.loop-k-test.true)) (sym c.parts_len.ensures ∙ c.if-parts_len.false ∙ c.parts_len-2.ensures) c.loop-k.invariant (sym c.if-not-same_part.ensures)

pub returns : goal.returns
returns g c =
    loop_all (part_seen (class_in c.args.graph.now c.args.lines.now)) c.args.one.now.parts c.args.other.now.parts c.loop-k.k (omega (arith, c.parts_len-k-end.ensures, c.loop-k-test.false)) (sym c.parts_len.ensures ∙ c.if-parts_len.false ∙ c.parts_len-2.ensures) c.loop-k.invariant
