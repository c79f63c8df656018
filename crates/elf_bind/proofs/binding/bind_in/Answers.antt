-- By name and version, or else among the exports of the name.
use Rattle.std.proofs.Common.{List, ap, sym, ◌∙◌}
use Rattle.std.specs.Option.{option_copied}
use Rattle.abi_types.specs.Exports.{PlainExport}
use Rattle.elf_bind.specs.Named.{some_version_among}
use Rattle.elf_bind.proofs.NamedLemmas.{binds_exactly, binds_otherwise, first_of_version, some_version_is}
use Rattle.elf_bind.proofs.binding.bind_in.Goals as goal

pub returns-then-is_settled : goal.returns-then-is_settled
returns-then-is_settled g c =
    binds_exactly c.args.offered.now.exports c.args.wanted.now.name.now (option_copied c.args.wanted.now.version) c.first_of-exact.result
    (c.first_of-exact.ensures ∙ first_of_version _ _ _ _ c.exports_of_version.ensures) (sym c.is_settled.ensures ∙ c.if-is_settled.true)

pub returns : goal.returns
returns g c =
    let all = c.args.offered.now.exports in
    let name = c.args.wanted.now.name.now in
    let places = c.exports_named-places.result.now in
    binds_otherwise all name (option_copied c.args.wanted.now.version) c.first_of-exact.result c.place_of_some_version.result
    (c.first_of-exact.ensures ∙ first_of_version _ _ _ _ c.exports_of_version.ensures) (sym c.is_settled.ensures ∙ c.if-is_settled.false)
    (c.place_of_some_version.ensures
    ∙ ap (λ (exports : List PlainExport). some_version_among name places exports) c.exports.ensures
    ∙ some_version_is all name places c.exports_named-places.ensures)
