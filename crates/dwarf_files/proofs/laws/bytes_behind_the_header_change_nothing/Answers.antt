use Rattle.dwarf_files.proofs.LawLemmas.{same_header, appended}
use Rattle.dwarf_files.proofs.laws.bytes_behind_the_header_change_nothing.Goals as goal

pub returns-clause-same : goal.returns-clause-same
returns-clause-same c = same_header

pub returns-clause-appended : goal.returns-clause-appended
returns-clause-appended c = appended
