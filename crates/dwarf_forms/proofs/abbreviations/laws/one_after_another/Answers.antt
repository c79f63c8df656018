use Rattle.dwarf_forms.proofs.abbreviations_lemmas.AbbrevsLemmas.{specs_chain}
use Rattle.dwarf_forms.proofs.abbreviations_lemmas.StandingLemmas.{table_chain}
use Rattle.dwarf_forms.proofs.abbreviations.laws.one_after_another.Goals as goal

pub returns-clause-abbrevs : goal.returns-clause-abbrevs
returns-clause-abbrevs c = table_chain

pub returns-clause-pairs : goal.returns-clause-pairs
returns-clause-pairs c = specs_chain
