use Rattle.std.proofs.Common.{◌≡◌, ◌∷◌, map, take}
use Rattle.abi_types.specs.Parts.{plain_part}
use Rattle.abi_types.specs.Types.{Outcome}
use Rattle.type_reach.specs.References.{type_of}
use Rattle.type_reach.specs.Views.{param_part}
use Rattle.type_graph.specs.Nodes.{number_in}
use Rattle.type_graph.proofs.parts.function_parts.Given as goal

abbrev pub invariant-params : goal.invariant-params
invariant-params g l = map (plain_part g.Ix.Index.number_of) l.parts.items ≡ Outcome (number_in l.types.found.now (type_of l.types.dwarf.now.tree l.c)) ∷ map (param_part (number_in l.types.found.now) l.types.dwarf.now.tree) (take l.k l.params)
