use Rattle.std.proofs.Common.{rules}
use Rattle.std.proofs.lemmas.List.Sorted.{IsPartitionPoint-from_clause}
use Rattle.suppressions.specs.PlainHandles.{plain_handle, plain_handles}
use Rattle.suppressions.proofs.HandleLemmas.{upto_parts, is_upto}
use Rattle.suppressions.proofs.handle_order.count_upto.Goals as goal

pub returns-clause-parts : goal.returns-clause-parts
returns-clause-parts c =
    let handles = plain_handles c.args.handles.now in
    let handle = plain_handle c.args.handle in
    IsPartitionPoint-from_clause (is_upto handles c.args.places.now handle c.requires) c.args.places.now c.partition_point.result c.partition_point.ensures.partitioned (upto_parts handles c.args.places.now handle c.requires) (λ a r f q. search rules)
