-- One part more is the same.
use Rattle.std.proofs.Common.{sym, ◌∙◌, arith}
use Rattle.abi_types.specs.Graphs.{no_part}
use Rattle.type_classes.proofs.SameLemmas.{same_all}
use Rattle.type_classes.proofs.same.same_parts.Goals as goal

pub returns : goal.returns
returns g c t =
    same_all no_part c.args.one.now.parts c.args.other.now.parts c.loop-k.k (omega (arith, c.parts_len-k-end.ensures, c.loop-k-test.false)) (sym c.parts_len.ensures ∙ c.if-parts_len.false ∙ c.parts_len-2.ensures) c.loop-k.invariant
