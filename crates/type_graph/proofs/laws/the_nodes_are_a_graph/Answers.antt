use Rattle.type_reach.specs.ReachedList.{reached_of}
use Rattle.type_graph.proofs.JudgeLemmas.{are-sound}
use Rattle.type_graph.proofs.laws.the_nodes_are_a_graph.Goals as goal

pub returns : goal.returns
returns c d roots inside none ordered =
    let walk = c.the_list_holds_the_reached.ensures.walk d.tree roots inside in
    let closed = c.the_list_holds_the_reached.ensures.closed d.tree roots inside in
    let sound = are-sound c.depth_is_a_chain.ensures d roots none in
    c.made_nodes_are_a_graph.ensures d (c.laws_of_types.ensures d) (reached_of d.tree roots) closed sound.shallow sound.shaped sound.fits ordered ordered.positive walk.once
