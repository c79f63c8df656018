use Rattle.std.proofs.Common.{sym, subst}
use Rattle.abi_base.proofs.lemmas.Lists.{contains_at}
use Rattle.type_reach.specs.References.{type_of}
use Rattle.type_reach.specs.PeeledCores.{IsFound}
use Rattle.type_graph.proofs.ViewLemmas.{type_found, own_there}
use Rattle.type_graph.proofs.parts.type_alone.Goals as goal

pub returns-clause-there : goal.returns-clause-there
returns-clause-there c =
    let t = c.args.types.now.dwarf.now.tree in
    let there = contains_at c.args.types.now.found.now c.args.number c.args.c c.requires.at in
    subst (IsFound c.args.types.now.found.now) (sym c.own_type.ensures) (type_found t c.args.types.now.found.now c.args.c (type_of t c.args.c) c.requires.closed there (own_there t c.args.c c.requires.own))
