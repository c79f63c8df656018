-- What was explored can be read, and its notes are those of all visits.
use Rattle.std.proofs.Common.{subst}
use Rattle.abi_types.specs.Graphs.{IsGraph}
use Rattle.pair_compare.specs.BoundPair.{sides_of}
use Rattle.type_notes.proofs.WalkLemmas.{readable}
use Rattle.type_notes.proofs.walk.notes_of_classes.Goals as goal

pub notes_of_visits-requires : goal.notes_of_visits-requires
notes_of_visits-requires g c =
    readable (record {
      walks = c.paths_end_where_they_lead.ensures.walks;
      comes = c.paths_by_representatives.ensures.comes;
      along = c.parents_spell_paths.ensures.along;
      one = c.parents_spell_paths.ensures.one;
    }) (sides_of c.args.ground.now.pair) c.args.old_classes.now c.args.new_classes.now c.in_ok-explored.explored.visits c.in_ok-explored.explored.breaks
    (subst IsGraph c.graph-old_graph.ensures c.known.ensures) (subst IsGraph c.graph-new_graph.ensures c.known-2.ensures)
    c.explore_types.ensures.sound c.in_ok-explored.ensures.explored

pub returns : goal.returns
returns g c = record {
  old_classes = c.args.old_classes.now;
  new_classes = c.args.new_classes.now;
  old_nodes = c.requires.old_nodes;
  new_nodes = c.requires.new_nodes;
  old_alone = c.requires.old_alone;
  new_alone = c.requires.new_alone;
  visits = c.in_ok-explored.explored.visits;
  breaks = c.in_ok-explored.explored.breaks;
  explored = c.in_ok-explored.ensures.explored;
  are = c.in_ok-notes.ensures;
}
