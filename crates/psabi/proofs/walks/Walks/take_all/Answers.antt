-- A part names a node of the graph.
use Rattle.std.proofs.Common.{◌≡◌, sym, Some}
use Rattle.abi_types.specs.Graphs.{view_at, part_at, to_of}
use Rattle.psabi.proofs.walks.Walks.take_all.Goals as goal

pub take-requires-clause-inside : goal.take-requires-clause-inside
take-requires-clause-inside g c =
    let i = g.Ix.Index.number_of c.args.ix in
    let to = g.Ix.Index.number_of c.in-Some.to in
    let e : to_of (part_at (view_at c.args.graph.now i) c.loop-k.k) ≡ Some to = rw (← c.view-view.ensures, ← c.part.ensures) (sym c.in-Some.ensures) in
    c.known.ensures.inside i c.loop-k.k to e
