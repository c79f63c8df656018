use Rattle.std.proofs.Common.{◌∙◌}
use Rattle.dwarf_forms.proofs.abbreviations_lemmas.AbbrevsLemmas.{short_step, specs_front}
use Rattle.dwarf_forms.specs.abbreviations.Abbrevs.{plain_pair}
use Rattle.dwarf_forms.proofs.abbreviations.reading.short_pair.Goals as goal

pub returns-clause-step : goal.returns-clause-step
returns-clause-step c =
    short_step c.args.bytes.now c.args.at c.in-Some.attribute c.in-Some-short_number.form c.in-Some.ensures.found c.in-Some-short_number.ensures.found c.in-Some.ensures.some c.in-Some-short_number.ensures.some (λ is. c.if-from-eq-DW_FORM_implicit_const.false (c.from.ensures ∙ is))

pub returns-clause-found : goal.returns-clause-found
returns-clause-found c =
    specs_front c.args.bytes.now c.args.at (plain_pair c.in-Some.attribute c.in-Some-short_number.form) _ (returns-clause-step c)
