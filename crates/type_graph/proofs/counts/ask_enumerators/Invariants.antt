use Rattle.std.proofs.Common.{take}
use Rattle.abi_base.specs.declared.limit.Limit.TheVariants.{Letters, Enumerators}
use Rattle.abi_base.proofs.lemmas.Budgets.{SpentOn}
use Rattle.type_graph.specs.Counts.{enumerators_held, enumerator_letters_held}
use Rattle.type_graph.proofs.counts.ask_enumerators.Given as goal

abbrev pub invariant-found : goal.invariant-found
invariant-found l = record {
  parts : SpentOn Enumerators l.fn.bytes (enumerators_held l.dwarf) (take l.number l.found) l.budget;
  letters : SpentOn Letters l.fn.bytes (enumerator_letters_held l.dwarf) (take l.number l.found) l.letters;
}
