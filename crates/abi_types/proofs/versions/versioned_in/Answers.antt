use Rattle.std.specs.Option.{option_copied}
use Rattle.abi_types.specs.Plain.{plain_exports}
use Rattle.abi_types.proofs.VersionLemmas.{start_le, AreVersioned-slice}
use Rattle.abi_types.proofs.versions.versioned_in.Goals as goal

pub between-requires : goal.between-requires
between-requires c = record {
  rises = start_le (plain_exports c.args.exports.now) c.args.places.now c.args.name.now (option_copied c.args.version) c.requires c.count_before-start.result c.count_upto-end.result c.count_before-start.ensures.parts c.count_upto-end.ensures.parts c.count_upto-end.ensures.inside c.count_before-start.ensures.inside;
  inside = c.count_upto-end.ensures.inside;
}

pub returns : goal.returns
returns c =
    rw c.between.ensures
    (AreVersioned-slice (plain_exports c.args.exports.now) c.args.places.now c.args.name.now (option_copied c.args.version) c.requires c.count_before-start.result c.count_upto-end.result c.count_before-start.ensures.parts c.count_upto-end.ensures.parts c.count_upto-end.ensures.inside c.count_before-start.ensures.inside)
