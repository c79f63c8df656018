-- The part names this node.
use Rattle.std.proofs.Common.{Some, ap, ◌∙◌}
use Rattle.std.proofs.lemmas.Result.{on_ok_weaker}
use Rattle.abi_types.specs.Graphs.{to_of}
use Rattle.abi_types.specs.Parts.{plain_part}
use Rattle.type_classes.proofs.EdgeLemmas.{part_added}
use Rattle.type_classes.proofs.edges.add_part.Goals as goal

pub returns-in-Some-clause-pairs : goal.returns-in-Some-clause-pairs
returns-in-Some-clause-pairs g c =
    on_ok_weaker c.add.result (part_added c.args.incoming.now c.add.new.self c.number.result (to_of (plain_part g.Ix.Index.number_of c.args.part.now)) c.args.pair (ap Some c.number.ensures ∙ c.in-Some.ensures))
    c.add.ensures.added
