-- The typed pairs can be explored, and there are no more classes than nodes.
use Rattle.std.proofs.Common.{rules, arith}
use Rattle.pair_explorer.specs.ByClass.{IsSound}
use Rattle.pair_compare.specs.BoundPair.{sides_of}
use Rattle.pair_compare.specs.Explored.{scope_of}
use Rattle.pair_compare.proofs.Counting.{most_triples-le}
use Rattle.pair_compare.proofs.exploring.explore_types.Goals as goal

pub returns-in_err-roots-clause-sound : goal.returns-in_err-roots-clause-sound
returns-in_err-roots-clause-sound g c =
    c.typed_pairs_can_be_explored.ensures c.args.pair.now.old.now c.args.pair.now.new.now c.args.pair.now.marks.now c.args.old_classes.now c.args.new_classes.now c.requires.marks c.known.ensures c.known-2.ensures
    c.requires.old_nodes c.requires.new_nodes

pub explore-requires : goal.explore-requires
explore-requires g c =
    let sound : IsSound (scope_of (sides_of c.args.pair.now) c.args.old_classes.now c.args.new_classes.now) =
    c.typed_pairs_can_be_explored.ensures c.args.pair.now.old.now c.args.pair.now.new.now c.args.pair.now.marks.now c.args.old_classes.now c.args.new_classes.now c.requires.marks c.known.ensures c.known-2.ensures
    c.requires.old_nodes c.requires.new_nodes in
    search (rules, sound.scope)

pub returns-clause-sound : goal.returns-clause-sound
returns-clause-sound g c =
    c.typed_pairs_can_be_explored.ensures c.args.pair.now.old.now c.args.pair.now.new.now c.args.pair.now.marks.now c.args.old_classes.now c.args.new_classes.now c.requires.marks c.known.ensures c.known-2.ensures
    c.requires.old_nodes c.requires.new_nodes

pub returns-clause-bound : goal.returns-clause-bound
returns-clause-bound g c =
    omega (arith, c.explore.ensures.bound, most_triples-le (sides_of c.args.pair.now) c.args.old_classes.now c.args.new_classes.now c.requires.old_nodes c.requires.new_nodes)
