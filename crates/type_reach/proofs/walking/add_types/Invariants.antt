use Rattle.std.proofs.Common.{◌≡◌, map, drop}
use Rattle.type_reach.specs.Reached.{with_types}
use Rattle.type_reach.specs.References.{type_of}
use Rattle.type_reach.proofs.walking.add_types.Given as goal

abbrev pub invariant-parts : goal.invariant-parts
invariant-parts l = record {
  entries : with_types l.met.entries (map (type_of l.dwarf.tree) (drop l.k l.parts)) ≡ with_types l.fn.met.entries (map (type_of l.dwarf.tree) l.parts);
  room : l.met.room ≡ l.fn.met.room;
}
