use Rattle.type_reach.specs.ReachedList.{reached_of}
use Rattle.type_graph.proofs.JudgeLemmas.{are-sound}
use Rattle.type_graph.proofs.laws.the_nodes_stand_for_the_reached.Goals as goal

pub returns : goal.returns
returns c d roots inside none =
    let walk = c.the_list_holds_the_reached.ensures.walk d.tree roots inside in
    let closed = c.the_list_holds_the_reached.ensures.closed d.tree roots inside in
    let sound = are-sound c.depth_is_a_chain.ensures d roots none in
    c.made_nodes_stand_for_entries.ensures d (c.laws_of_types.ensures d) roots (reached_of d.tree roots) walk closed sound.shallow
