use Rattle.std.proofs.Common.{append_assoc, rules}
use Rattle.std.proofs.lemmas.Result.{IfOk-equal}
use Rattle.trial_libraries.specs.Units.{entries}
use Rattle.trial_libraries.proofs.units.make_entries.Goals as goal

pub returns : goal.returns
unfolding entries
returns c = search (rules, IfOk-equal, append_assoc)
