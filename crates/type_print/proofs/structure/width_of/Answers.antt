use Rattle.std.proofs.Common.{◌≤◌, ◌^◌, sym, subst}
use Rattle.abi_types.specs.Types.{PlainView}
use Rattle.type_print.proofs.structure.width_of.Goals as goal

pub bits_of-requires : goal.bits_of-requires
bits_of-requires g c =
    let P : PlainView → Type 0 = λ v. v.size ≤ 2 ^ 60 in
    subst P (sym c.view-view.ensures) (c.known.ensures.limits (g.Ix.Index.number_of c.args.to)).size
