use Rattle.std.proofs.Common.{subst}
use Rattle.type_reach.specs.PeeledCores.{IsFound}
use Rattle.type_graph.proofs.counts.take_params.Goals as goal

pub role_of-requires : goal.role_of-requires
role_of-requires c = c.requires.closed.inside c.in-Some.c (subst (IsFound c.args.types.now.found.now) c.in-Some.is c.requires.there)
