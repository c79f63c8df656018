use Rattle.std.proofs.Common.{append_assoc, rules}
use Rattle.std.proofs.lemmas.Result.{IfOk-equal}
use Rattle.trial_libraries.specs.Units.{pointer}
use Rattle.trial_libraries.proofs.units.put_pointer.Goals as goal

pub returns : goal.returns
unfolding pointer
returns c = search (rules, IfOk-equal, append_assoc)
