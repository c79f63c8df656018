use Rattle.std.proofs.Common.{append_assoc, rules}
use Rattle.std.proofs.lemmas.Result.{IfOk-equal}
use Rattle.trial_libraries.specs.Libraries.{section_header}
use Rattle.trial_libraries.proofs.file.put_section_header.Goals as goal

pub returns : goal.returns
unfolding section_header
returns c = search (rules, IfOk-equal, append_assoc)
