use Rattle.std.proofs.Common.{ℕ, length, rules}
use Rattle.std.specs.Cmp.Lexicographic.{slice_cmp}
use Rattle.std.specs.Ordering.{nat_cmp, is_le}
use Rattle.std.proofs.lemmas.Cmp.{nat_list_cmp_total}
use Rattle.std.proofs.lemmas.List.Sorted.{IsPartitionPoint-from_clause}
use Rattle.abi_types.specs.Names.{name_at, named_cmp}
use Rattle.abi_types.specs.Plain.{plain_exports}
use Rattle.abi_types.proofs.KeyLemmas.{upto_parts}
use Rattle.abi_types.proofs.names.count_upto.Goals as goal

pub returns-clause-parts : goal.returns-clause-parts
returns-clause-parts c =
    let exports = plain_exports c.args.exports.now in
    let name = c.args.name.now in
    let places = c.args.places.now in
    IsPartitionPoint-from_clause (λ (k : ℕ). is_le (named_cmp exports name k)) places c.partition_point.result c.partition_point.ensures.partitioned
    (upto_parts (slice_cmp nat_cmp) nat_list_cmp_total (name_at exports) (length exports) places c.requires.all c.requires.rises name) (λ a r f q. search rules)
