use Rattle.std.proofs.Common.{ℕ, length, rules}
use Rattle.std.specs.Option.{option_copied}
use Rattle.std.specs.Ordering.{is_le}
use Rattle.std.proofs.lemmas.List.Sorted.{IsPartitionPoint-from_clause}
use Rattle.abi_types.specs.Plain.{plain_exports}
use Rattle.abi_types.specs.Versions.{versioned_cmp}
use Rattle.abi_types.proofs.KeyLemmas.{upto_parts}
use Rattle.abi_types.proofs.VersionLemmas.{key_at, pair_cmp, pair_total}
use Rattle.abi_types.proofs.versions.count_upto.Goals as goal

pub returns-clause-parts : goal.returns-clause-parts
returns-clause-parts c =
    let exports = plain_exports c.args.exports.now in
    let name = c.args.name.now in
    let version = option_copied c.args.version in
    let places = c.args.places.now in
    IsPartitionPoint-from_clause (λ (k : ℕ). is_le (versioned_cmp exports name version k)) places c.partition_point.result c.partition_point.ensures.partitioned
    (upto_parts pair_cmp pair_total (key_at exports) (length exports) places c.requires.all c.requires.rises (name, version)) (λ a r f q. search rules)
