use Rattle.std.proofs.Common.{ap, sym, subst, get_or}
use Rattle.std.specs.Prelude.{Contains}
use Rattle.abi_base.proofs.lemmas.Lists.{contains_at}
use Rattle.type_reach.specs.References.{has_type, type_of}
use Rattle.type_reach.specs.PeeledCores.{IsFound}
use Rattle.type_graph.proofs.ListLemmas.{at-place}
use Rattle.type_graph.proofs.ViewLemmas.{type_found, own_there, part_there}
use Rattle.type_graph.proofs.parts.function_parts.Goals as goal

pub own_type-requires-clause-own : goal.own_type-requires-clause-own
own_type-requires-clause-own g c = ap has_type c.requires.role

pub node_of-requires : goal.node_of-requires
node_of-requires g c =
    let t = c.args.types.now.dwarf.now.tree in
    let there = contains_at c.args.types.now.found.now c.args.number c.args.c c.requires.at in
    subst (IsFound c.args.types.now.found.now) (sym c.own_type.ensures) (type_found t c.args.types.now.found.now c.args.c (type_of t c.args.c) c.requires.closed there (own_there t c.args.c (ap has_type c.requires.role)))

pub node_of-requires-in-params : goal.node_of-requires-in-params
node_of-requires-in-params g c =
    let t = c.args.types.now.dwarf.now.tree in
    let params = c.parts_at-params.result.now in
    let m = get_or params c.params.k 0 in
    let there = contains_at c.args.types.now.found.now c.args.number c.args.c c.requires.at in
    let has = subst (λ xs. Contains xs m) c.parts_at-params.ensures.parts (at-place params c.params.k c.params-test.true) in
    subst (IsFound c.args.types.now.found.now) (sym c.part_type.ensures) (type_found t c.args.types.now.found.now c.args.c (type_of t m) c.requires.closed there (part_there t c.args.c m has))
