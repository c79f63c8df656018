use Rattle.std.proofs.Common.{◌-◌}
use Rattle.abi_base.specs.Limits.{depth_limit}
use Rattle.type_graph.specs.Placed.{plain_members}
use Rattle.type_graph.proofs.FlattenLemmas.{IsPut}
use Rattle.type_graph.proofs.flatten.+push_flat.Given as goal

abbrev pub invariant-members : goal.invariant-members
invariant-members l = IsPut l.types.dwarf.now (plain_members l.fn.out.items) l.base.bit l.members l.k (plain_members l.out.items)

abbrev pub decreases-push_flat : goal.decreases-push_flat
decreases-push_flat l = depth_limit - l.base.depth
