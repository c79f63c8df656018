-- One part more.
use Rattle.abi_types.specs.Parts.{plain_part}
use Rattle.type_classes.proofs.EdgeLemmas.{IsAdding-more, IsAdding-all, to_part, parts_past}
use Rattle.type_classes.proofs.edges.add_parts.Goals as goal

pub parts-preserved : goal.parts-preserved
parts-preserved g c =
    let told = c.in_ok-add_part.ensures in
    IsAdding-more c.args.graph.now c.args.incoming.now c.parts.incoming c.add_part.new.incoming c.args.node c.parts.k (plain_part g.Ix.Index.number_of c.part.result.now) c.parts.invariant
    (to_part c.args.graph.now c.args.node (g.Ix.Index.number_of c.of.result) c.parts.k c.view-view.result.now (plain_part g.Ix.Index.number_of c.part.result.now) c.view-view.ensures c.of.ensures c.part.ensures) told.linked told.many told.pairs

pub returns-clause-added : goal.returns-clause-added
returns-clause-added g c =
    IsAdding-all c.args.graph.now c.args.incoming.now c.parts.incoming c.args.node c.parts.k
    (parts_past c.args.graph.now c.args.node (g.Ix.Index.number_of c.of.result) c.parts.k c.parts_len-k-end.result c.view-view.result.now c.view-view.ensures c.of.ensures c.parts_len-k-end.ensures c.parts-test.false) c.requires.before c.parts.invariant
