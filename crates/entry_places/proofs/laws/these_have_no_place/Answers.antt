use Rattle.entry_places.proofs.LawLemmas.{no_entry, no_file, no_line, line_0}
use Rattle.entry_places.proofs.laws.these_have_no_place.Goals as goal

pub returns-clause-no_entry : goal.returns-clause-no_entry
returns-clause-no_entry c = no_entry

pub returns-clause-no_file : goal.returns-clause-no_file
returns-clause-no_file c = no_file

pub returns-clause-no_line : goal.returns-clause-no_line
returns-clause-no_line c = no_line

pub returns-clause-line_0 : goal.returns-clause-line_0
returns-clause-line_0 c = line_0
