-- A member's type is a node.
use Rattle.std.proofs.Common.{◌≡◌, Some, refl}
use Rattle.abi_types.specs.Graphs.{view_at, part_at, to_of}
use Rattle.type_notes.proofs.packing.stands_off.Goals as goal

pub align_at-requires-clause-node : goal.align_at-requires-clause-node
align_at-requires-clause-node g c =
    let e : to_of (part_at (view_at c.args.graph.now (g.Ix.Index.number_of c.args.ix)) c.args.k) ≡ Some (g.Ix.Index.number_of c.in-Member.to) = rw (← c.view-view.ensures, ← c.part.ensures, c.in-Member.is) refl in
    c.known.ensures.inside (g.Ix.Index.number_of c.args.ix) c.args.k (g.Ix.Index.number_of c.in-Member.to) e
