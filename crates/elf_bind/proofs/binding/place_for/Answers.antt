-- By name and version, or else among the exports of the name.
use Rattle.std.proofs.Common.{sym, ◌∙◌}
use Rattle.std.specs.Option.{option_copied}
use Rattle.abi_types.specs.Plain.{plain_exports}
use Rattle.elf_bind.proofs.NamedLemmas.{binds_exactly, binds_otherwise, first_of_version}
use Rattle.elf_bind.proofs.binding.place_for.Goals as goal

pub returns-then-is_settled-clause-place : goal.returns-then-is_settled-clause-place
returns-then-is_settled-clause-place c =
    binds_exactly (plain_exports c.args.offered.now) c.args.wanted.now.name.now (option_copied c.args.wanted.now.version) c.first_of-exact.result
    (c.first_of-exact.ensures ∙ first_of_version _ _ _ _ c.versioned_in-versioned.ensures) (sym c.is_settled.ensures ∙ c.if-is_settled.true)

pub returns-clause-place : goal.returns-clause-place
returns-clause-place c =
    binds_otherwise (plain_exports c.args.offered.now) c.args.wanted.now.name.now (option_copied c.args.wanted.now.version) c.first_of-exact.result c.in_ok-place.place
    (c.first_of-exact.ensures ∙ first_of_version _ _ _ _ c.versioned_in-versioned.ensures) (sym c.is_settled.ensures ∙ c.if-is_settled.false)
    c.in_ok-place.ensures.place
