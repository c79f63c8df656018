use Rattle.dwarf_forms.proofs.abbreviations_lemmas.StandingLemmas.{codes_apart}
use Rattle.dwarf_forms.proofs.abbreviations.laws.codes_are_apart.Goals as goal

pub returns : goal.returns
returns c = codes_apart
