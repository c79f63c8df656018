use Rattle.dwarf_files.proofs.LawLemmas.{absolute_stays}
use Rattle.dwarf_files.proofs.laws.an_absolute_name_stays.Goals as goal

pub returns : goal.returns
returns c = absolute_stays
