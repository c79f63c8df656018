use Rattle.std.proofs.Common.{◌≡◌, map, take}
use Rattle.abi_types.specs.Parts.{plain_part}
use Rattle.type_reach.specs.Views.{member_part}
use Rattle.type_graph.specs.Nodes.{number_in}
use Rattle.type_graph.specs.Placed.{plain_members}
use Rattle.type_graph.proofs.parts.member_parts.Given as goal

abbrev pub invariant-members : goal.invariant-members
invariant-members g l = map (plain_part g.Ix.Index.number_of) l.parts.items ≡ map (member_part (number_in l.found)) (plain_members (take l.k l.members))
