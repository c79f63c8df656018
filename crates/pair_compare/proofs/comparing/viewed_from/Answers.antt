-- The graphs, the roots and the classes are those of the two libraries.
use Rattle.std.proofs.Common.{◌∙◌, subst}
use Rattle.abi_types.specs.Graphs.{IsGraph}
use Rattle.pair_compare.specs.BoundPair.{sides_of}
use Rattle.pair_compare.proofs.CoarseLemmas.{coarse_of}
use Rattle.pair_compare.proofs.comparing.viewed_from.Goals as goal

pub viewed-requires-clause-coarse : goal.viewed-requires-clause-coarse
viewed-requires-clause-coarse g c =
    let s = sides_of c.args.pair.now in
    let old = c.in_ok-old_classes.old_classes in
    let new = c.in_ok-new_classes.new_classes in
    let sound =
    c.typed_pairs_can_be_explored.ensures s.old s.new s.marks old new c.requires.marks c.known-3.ensures c.known-4.ensures (c.in_ok-old_classes.ensures.graph ∙ c.graph-old_graph.ensures) (c.in_ok-new_classes.ensures.graph ∙ c.graph-new_graph.ensures) in
    coarse_of s c.graph-old_graph.result.now c.graph-new_graph.result.now c.args.roots.now old new c.graph-old_graph.ensures c.graph-new_graph.ensures c.requires.roots sound
    (subst IsGraph c.graph-old_graph.ensures c.known.ensures) (subst IsGraph c.graph-new_graph.ensures c.known-2.ensures) c.in_ok-old_classes.ensures.coarsest c.in_ok-new_classes.ensures.coarsest
