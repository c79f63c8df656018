use Rattle.std.proofs.Common.{◌≡◌, map, take, length}
use Rattle.std.specs.Prelude.{All}
use Rattle.abi_base.specs.declared.limit.Limit.TheVariants.{Members}
use Rattle.abi_base.proofs.lemmas.Budgets.{SpentOn}
use Rattle.type_reach.specs.References.{parts_of, types_of}
use Rattle.type_reach.specs.Origins.{AreOrigins}
use Rattle.type_reach.specs.Views.{is_variadic}
use Rattle.type_reach.proofs.LeadLemmas.{ArePartsInside}
use Rattle.type_reach.proofs.type_references.type_references_of.Given as goal

abbrev pub invariant-found : goal.invariant-found
invariant-found l = record {
  parts : l.parts ≡ map (parts_of l.dwarf.tree) (take l.number l.found);
  types : l.types ≡ map (types_of l.dwarf.tree) (take l.number l.found);
  variadic : l.variadic.items ≡ map (is_variadic l.dwarf.tree) (take l.number l.found);
  inside : All (ArePartsInside l.dwarf.tree) (take l.number l.found);
  count : SpentOn Members l.fn.bytes (λ e. length (parts_of l.dwarf.tree e)) (take l.number l.found) l.budget;
  origins : AreOrigins l.dwarf.tree l.parts l.variadic.items l.origins;
}
