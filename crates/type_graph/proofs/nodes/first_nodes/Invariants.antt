use Rattle.std.proofs.Common.{◌≡◌, ◌∷◌, ℕ, Some, None, map, take, length}
use Rattle.abi_base.specs.declared.limit.Limit.TheVariants.{Letters, TypeNames}
use Rattle.abi_base.proofs.lemmas.Budgets.{SpentOn}
use Rattle.type_graph.specs.Counts.{type_letters, names_held}
use Rattle.type_graph.specs.Sharing.{first_node}
use Rattle.type_graph.proofs.nodes.first_nodes.Given as goal

abbrev pub invariant-found : goal.invariant-found
invariant-found g l = record {
  nodes : l.nodes ≡ first_node l.types.dwarf.now l.types.found.now None ∷ map (λ (e : ℕ). first_node l.types.dwarf.now l.types.found.now (Some e)) (take l.number l.types.found.now);
  letters : SpentOn Letters l.fn.bytes type_letters l.nodes l.letters;
  names : SpentOn TypeNames (length l.types.found.now) names_held l.nodes l.names;
}
