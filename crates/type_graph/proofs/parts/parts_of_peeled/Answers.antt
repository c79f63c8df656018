use Rattle.std.proofs.Common.{ap, sym, ◌∙◌}
use Rattle.abi_base.proofs.lemmas.Lists.{contains_at}
use Rattle.type_reach.specs.References.{has_type}
use Rattle.type_graph.proofs.parts.parts_of_peeled.Goals as goal

pub aggregate_parts-requires-clause-there : goal.aggregate_parts-requires-clause-there
aggregate_parts-requires-clause-there g c = contains_at c.args.types.now.found.now c.args.number c.args.c c.requires.at

pub enumerator_parts-requires : goal.enumerator_parts-requires
enumerator_parts-requires g c = c.requires.closed.inside c.args.c (contains_at c.args.types.now.found.now c.args.number c.args.c c.requires.at)

pub type_alone-requires-clause-own : goal.type_alone-requires-clause-own
type_alone-requires-clause-own g c = ap has_type (sym c.requires.role ∙ c.in-Pointer.is)

pub type_alone-requires-in-Array-clause-own : goal.type_alone-requires-in-Array-clause-own
type_alone-requires-in-Array-clause-own g c = ap has_type (sym c.requires.role ∙ c.in-Array.is)
