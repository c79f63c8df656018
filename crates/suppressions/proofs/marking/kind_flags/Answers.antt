use Rattle.std.proofs.Common.{◌∙◌, List, ap, sym}
use Rattle.std.specs.Option.{option_copied}
use Rattle.suppression_text.specs.declared.key.SectionKind.TheVariants.{Functions, Variables}
use Rattle.suppression_text.specs.Rules.{PlainSection}
use Rattle.suppressions.specs.Meaning.{some_section_holds}
use Rattle.suppressions.specs.Names.{some_ask}
use Rattle.suppressions.specs.Subjects.{kind_subject}
use Rattle.suppressions.proofs.marking.kind_flags.Goals as goal

pub kind_flag-requires-clause-asks : goal.kind_flag-requires-clause-asks
kind_flag-requires-clause-asks c = ap some_ask c.loop-export.invariant.0 ∙ c.requires

pub kind_flag-requires-clause-functions : goal.kind_flag-requires-clause-functions
kind_flag-requires-clause-functions c =
    c.some_holds-functions.ensures.some ∙ ap (some_section_holds c.args.sections.now) c.of_kind.ensures
    ∙ ap (λ (sections : List PlainSection). some_section_holds sections (kind_subject (option_copied c.args.soname) Functions)) (sym c.loop-export.invariant.0)

pub kind_flag-requires-clause-variables : goal.kind_flag-requires-clause-variables
kind_flag-requires-clause-variables c =
    c.some_holds-variables.ensures.some ∙ ap (some_section_holds c.some_holds-functions.new.self) c.of_kind-2.ensures
    ∙ ap (λ (sections : List PlainSection). some_section_holds sections (kind_subject (option_copied c.args.soname) Variables)) (c.some_holds-functions.ensures.same ∙ sym c.loop-export.invariant.0)
