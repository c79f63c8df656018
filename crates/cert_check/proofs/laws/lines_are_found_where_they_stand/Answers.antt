use Rattle.cert_check.proofs.LineLaws.{line_stands, line_missing, is_line_there}
use Rattle.cert_check.proofs.laws.lines_are_found_where_they_stand.Goals as goal

pub returns-clause-found : goal.returns-clause-found
returns-clause-found c = line_stands

pub returns-clause-missing : goal.returns-clause-missing
returns-clause-missing c = line_missing

pub returns-clause-pairs : goal.returns-clause-pairs
returns-clause-pairs c = is_line_there
