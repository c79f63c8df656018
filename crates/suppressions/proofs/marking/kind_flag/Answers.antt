use Rattle.std.proofs.Common.{◌∙◌, sym}
use Rattle.std.specs.Option.{option_copied}
use Rattle.abi_types.specs.Plain.{plain_export}
use Rattle.suppression_text.specs.declared.key.SectionKind.TheVariants.{Functions, Variables}
use Rattle.suppressions.proofs.UnnamedLemmas.{kind_alike}
use Rattle.suppressions.proofs.marking.kind_flag.Goals as goal

pub returns-in-Functions-clause-drops : goal.returns-in-Functions-clause-drops
returns-in-Functions-clause-drops c =
    c.requires.functions ∙ kind_alike c.args.sections.now (option_copied c.args.soname) (plain_export c.args.export.now) Functions c.requires.asks (sym c.section_of_symbol.ensures ∙ c.in-Functions.is)

pub returns-in-Variables-clause-drops : goal.returns-in-Variables-clause-drops
returns-in-Variables-clause-drops c =
    c.requires.variables ∙ kind_alike c.args.sections.now (option_copied c.args.soname) (plain_export c.args.export.now) Variables c.requires.asks (sym c.section_of_symbol.ensures ∙ c.in-Variables.is)
