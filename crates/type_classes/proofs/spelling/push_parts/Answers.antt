-- One part more.
use Rattle.std.proofs.Common.{length}
use Rattle.abi_types.specs.Parts.{plain_part}
use Rattle.type_classes.specs.Shapes.{spelled_part}
use Rattle.type_classes.proofs.ShapeLemmas.{list_more_map, list_all_map}
use Rattle.type_classes.proofs.spelling.push_parts.Goals as goal

pub parts-preserved : goal.parts-preserved
parts-preserved g c =
    list_more_map (plain_part g.Ix.Index.number_of) spelled_part c.args.into.now.items c.parts.into.items c.push_part.new.into.items (length c.args.parts.now) c.parts.i c.args.parts.now c.index-parts-i.result c.parts-test.true c.index-parts-i.is c.parts.invariant c.in_ok-push_part.ensures.appended

pub returns-clause-appended : goal.returns-clause-appended
returns-clause-appended g c = list_all_map (plain_part g.Ix.Index.number_of) spelled_part c.args.into.now.items c.parts.into.items c.parts.i c.args.parts.now c.parts-test.false c.parts.invariant
