use Rattle.dwarf_entries.proofs.SoundLemmas.{types_there, names_there}
use Rattle.dwarf_entries.proofs.laws.types_and_names_are_there.Goals as goal

pub returns-clause-types : goal.returns-clause-types
returns-clause-types c = types_there

pub returns-clause-names : goal.returns-clause-names
returns-clause-names c = names_there
