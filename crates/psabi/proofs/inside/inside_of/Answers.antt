-- Elements end inside their array.
use Rattle.std.proofs.Common.{◌≡◌, ◌<◌, Some, refl, sym, arith}
use Rattle.abi_types.specs.declared.kind.Kind.TheVariants as kind
use Rattle.abi_types.specs.Graphs.{view_at, part_at, inner_of}
use Rattle.psabi.proofs.Named.{to_from_inner}
use Rattle.psabi.proofs.PastLemmas.{element-fits}
use Rattle.psabi.proofs.inside.inside_of.Goals as goal

pub overflow_mul-result : goal.overflow_mul-result
overflow_mul-result g c =
    let i = g.Ix.Index.number_of c.args.ix in
    let to = g.Ix.Index.number_of c.in-Some.to in
    let array : (view_at c.args.graph.now i).kind ≡ kind.Array = rw (← c.view-view.ensures, ← c.view.view_is) c.in-Array.is in
    let named : inner_of (part_at (view_at c.args.graph.now i) 0) ≡ Some to = rw (← c.view-view.ensures) (sym c.in-Some.ensures) in
    let lt : c.args.n < (view_at c.args.graph.now i).count = rw array at c.requires.below in
    let size : c.held.inside.size ≡ (view_at c.args.graph.now to).size = rw (← c.view-held.ensures, ← c.held.view_is) refl in
    let fits = element-fits c.args.graph.now c.known.ensures i c.args.n to array (to_from_inner _ _ named) lt in
    rw size (omega (arith, fits))

pub overflow_mul-result-in-Some : goal.overflow_mul-result-in-Some
overflow_mul-result-in-Some g c =
    let i = g.Ix.Index.number_of c.args.ix in
    let to = g.Ix.Index.number_of c.in-Some.to in
    let array : (view_at c.args.graph.now i).kind ≡ kind.Array = rw (← c.view-view.ensures, ← c.view.view_is) c.in-Array.is in
    let named : inner_of (part_at (view_at c.args.graph.now i) 0) ≡ Some to = rw (← c.view-view.ensures) (sym c.in-Some.ensures) in
    let lt : c.args.n < (view_at c.args.graph.now i).count = rw array at c.requires.below in
    let size : c.held.inside.size ≡ (view_at c.args.graph.now to).size = rw (← c.view-held.ensures, ← c.held.view_is) refl in
    let fits = element-fits c.args.graph.now c.known.ensures i c.args.n to array (to_from_inner _ _ named) lt in
    rw size (omega (arith, fits))

pub view-held-requires : goal.view-held-requires
view-held-requires g c =
    let i = g.Ix.Index.number_of c.args.ix in
    let to = g.Ix.Index.number_of c.in-Some.to in
    let named : inner_of (part_at (view_at c.args.graph.now i) 0) ≡ Some to = rw (← c.view-view.ensures) (sym c.in-Some.ensures) in
    c.known.ensures.inside i 0 to (to_from_inner _ _ named)
