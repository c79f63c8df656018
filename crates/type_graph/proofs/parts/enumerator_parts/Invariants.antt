use Rattle.std.proofs.Common.{◌≡◌, map, take}
use Rattle.abi_types.specs.Parts.{plain_part}
use Rattle.type_reach.specs.Views.{enumerator_part}
use Rattle.type_graph.proofs.parts.enumerator_parts.Given as goal

abbrev pub invariant-enumerators : goal.invariant-enumerators
invariant-enumerators g l = map (plain_part g.Ix.Index.number_of) l.parts.items ≡ map (enumerator_part l.dwarf) (take l.k l.enumerators.items)
