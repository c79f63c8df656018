use Rattle.std.proofs.Common.{◌≡◌, map, drop}
use Rattle.abi_base.specs.Outcome.{first}
use Rattle.type_reach.specs.Faults.{shape_fault}
use Rattle.type_graph.proofs.judging.ask_shapes.Given as goal

abbrev pub invariant-found : goal.invariant-found
invariant-found l = first (map (shape_fault l.dwarf) (drop l.number l.found)) ≡ first (map (shape_fault l.dwarf) l.found)
