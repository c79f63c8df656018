use Rattle.std.proofs.Common.{◌∙◌, true, false, sym, arith}
use Rattle.suppressions.proofs.WeightLemmas.{letters_start, letters_step, letters_whole}
use Rattle.suppressions.proofs.weight.escaped_letters.Goals as goal
use Rattle.suppressions.proofs.weight.escaped_letters.Goals.{then-is_escaped_letter, else-is_escaped_letter}

pub loop-byte-init : goal.loop-byte-init
loop-byte-init c = (letters_start c.args.text.now, omega arith)

pub loop-byte-preserved : goal.loop-byte-preserved
loop-byte-preserved c =
    elim c.if-is_escaped_letter.branch [
      | then-is_escaped_letter w ↦ (
        letters_step c.args.text.now c.loop-byte.byte-index _ c.loop-byte.count c.if-is_escaped_letter.count c.loop-byte.escaped true c.escapes-escaped.result c.loop-byte-test.true c.loop-byte.invariant.0
            (sym w.if-is_escaped_letter.true ∙ c.is_escaped_letter.ensures) c.escapes-escaped.ensures w.count-is,
        omega (arith, w.count-is, c.loop-byte.invariant.1),
      )
      | else-is_escaped_letter w ↦ (
        letters_step c.args.text.now c.loop-byte.byte-index _ c.loop-byte.count c.if-is_escaped_letter.count c.loop-byte.escaped false c.escapes-escaped.result c.loop-byte-test.true c.loop-byte.invariant.0
            (sym w.if-is_escaped_letter.false ∙ c.is_escaped_letter.ensures) c.escapes-escaped.ensures (omega (arith, w.count-is)),
        omega (arith, w.count-is, c.loop-byte.invariant.1),
      )
    ]

pub returns : goal.returns
returns c = letters_whole c.args.text.now c.loop-byte.byte-index c.loop-byte.count c.loop-byte.escaped (omega (arith, c.loop-byte-test.false)) c.loop-byte.invariant.0
