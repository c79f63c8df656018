use Rattle.dwarf_forms.proofs.abbreviations_lemmas.StandingLemmas.{table_stands}
use Rattle.dwarf_forms.proofs.abbreviations.laws.a_table_stands_there.Goals as goal

pub returns : goal.returns
returns c = table_stands
