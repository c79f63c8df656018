use Rattle.std.proofs.Common.{rules}
use Rattle.std.proofs.lemmas.List.Sorted.{IsPartitionPoint-from_clause}
use Rattle.dwarf_tree.proofs.SearchLemmas.{is_before, root_found, units_parted}
use Rattle.dwarf_tree.proofs.searches.root_in.Goals as goal

pub returns : goal.returns
returns c =
    root_found c.args.shapes.now c.args.entries.now c.args.unit c.requires.rise c.partition_point.result c.requires.there
    (IsPartitionPoint-from_clause (is_before c.args.shapes.now c.args.unit) c.args.entries.now c.partition_point.result c.partition_point.ensures.partitioned
    (units_parted c.args.shapes.now c.args.entries.now c.args.unit c.requires.rise) (λ a r q k. search rules))
