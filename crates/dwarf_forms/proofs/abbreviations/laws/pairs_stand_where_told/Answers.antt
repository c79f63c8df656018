use Rattle.dwarf_forms.proofs.abbreviations_lemmas.StandingLemmas.{pairs_there}
use Rattle.dwarf_forms.proofs.abbreviations.laws.pairs_stand_where_told.Goals as goal

pub returns : goal.returns
returns c = pairs_there
