use Rattle.std.proofs.Common.{append_assoc, rules}
use Rattle.std.proofs.lemmas.Result.{IfOk-equal}
use Rattle.trial_libraries.specs.Libraries.{file_places}
use Rattle.trial_libraries.proofs.file.put_file_places.Goals as goal

pub returns : goal.returns
unfolding file_places
returns c = search (rules, IfOk-equal, append_assoc)
