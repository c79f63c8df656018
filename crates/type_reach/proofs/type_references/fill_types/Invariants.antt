use Rattle.std.proofs.Common.{◌≡◌, ◌++◌, map, take}
use Rattle.type_reach.specs.References.{type_of, own_types}
use Rattle.type_reach.proofs.type_references.fill_types.Given as goal

abbrev pub invariant-parts : goal.invariant-parts
invariant-parts l = l.types.items ≡ own_types l.dwarf.tree l.fn.e ++ map (type_of l.dwarf.tree) (take l.k l.parts)
