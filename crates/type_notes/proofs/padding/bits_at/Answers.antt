-- A member's type is a node.
use Rattle.std.proofs.Common.{◌≡◌, Some, refl}
use Rattle.abi_types.specs.Graphs.{view_at, part_at, to_of}
use Rattle.type_notes.proofs.padding.bits_at.Goals as goal

pub width_of-requires : goal.width_of-requires
width_of-requires g c =
    let e : to_of (part_at (view_at c.args.graph.now (g.Ix.Index.number_of c.args.ix)) c.args.k) ≡ Some (g.Ix.Index.number_of c.in-Member.to) = rw (← c.view-view.ensures, ← c.part.ensures, c.in-Member.is) refl in
    c.known.ensures.inside (g.Ix.Index.number_of c.args.ix) c.args.k (g.Ix.Index.number_of c.in-Member.to) e
