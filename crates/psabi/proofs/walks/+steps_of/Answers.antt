-- The parts hold nodes of lower rank.
use Rattle.std.proofs.Common.{◌≡◌, sym, Some, rules}
use Rattle.abi_types.specs.Graphs.{view_at, part_at, inner_of}
use Rattle.psabi.proofs.Named.{to_from_inner}
use Rattle.psabi.proofs.walks.+steps_of.Goals as goal

pub steps_of-inner-requires : goal.steps_of-inner-requires
steps_of-inner-requires g t c κs within =
    let e : inner_of (part_at (view_at c.args.graph.now (g.Ix.Index.number_of c.args.ix)) c.loop-k.k) ≡ Some (g.Ix.Index.number_of c.in-Some.to) =
    rw (← c.view-view.ensures, ← c.part.ensures) (sym c.in-Some.ensures) in
    let less = c.known.ensures.falls (g.Ix.Index.number_of c.args.ix) c.loop-k.k (g.Ix.Index.number_of c.in-Some.to) e in
    let inside = c.known.ensures.inside (g.Ix.Index.number_of c.args.ix) c.loop-k.k (g.Ix.Index.number_of c.in-Some.to) (to_from_inner _ _ e) in
    search rules
