use Rattle.dwarf_entries.proofs.FirstLemmas.{typed_first, typed_nowhere}
use Rattle.dwarf_entries.proofs.laws.the_first_entry_stands_for_an_address.Goals as goal

pub returns-clause-found : goal.returns-clause-found
returns-clause-found c = typed_first

pub returns-clause-none : goal.returns-clause-none
returns-clause-none c = typed_nowhere
