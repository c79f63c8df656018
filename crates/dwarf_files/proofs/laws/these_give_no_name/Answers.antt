use Rattle.dwarf_files.proofs.LawLemmas.{no_dwarf64, no_other_version, no_first_file}
use Rattle.dwarf_files.proofs.laws.these_give_no_name.Goals as goal

pub returns-clause-dwarf64 : goal.returns-clause-dwarf64
returns-clause-dwarf64 c = no_dwarf64

pub returns-clause-versions : goal.returns-clause-versions
returns-clause-versions c = no_other_version

pub returns-clause-file_0 : goal.returns-clause-file_0
returns-clause-file_0 c = no_first_file
