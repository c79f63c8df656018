use Rattle.std.proofs.Common.{append_assoc, rules}
use Rattle.std.proofs.lemmas.Result.{IfOk-equal}
use Rattle.trial_libraries.specs.Libraries.{file_header}
use Rattle.trial_libraries.proofs.file.put_file_header.Goals as goal

pub returns : goal.returns
unfolding file_header
returns c = search (rules, IfOk-equal, append_assoc)
