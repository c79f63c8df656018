use Rattle.std.proofs.Common.{take}
use Rattle.abi_base.specs.declared.limit.Limit.TheVariants.{Letters, Members}
use Rattle.abi_base.proofs.lemmas.Budgets.{SpentOn}
use Rattle.type_graph.specs.Counts.{members_held, member_letters_held}
use Rattle.type_graph.proofs.counts.ask_parts.Given as goal

abbrev pub invariant-found : goal.invariant-found
invariant-found l = record {
  parts : SpentOn Members l.fn.bytes (members_held l.types.dwarf.now) (take l.number l.types.found.now) l.budget;
  letters : SpentOn Letters l.fn.bytes (member_letters_held l.types.dwarf.now) (take l.number l.types.found.now) l.letters;
}
