use Rattle.std.proofs.Common.{append_assoc, rules}
use Rattle.std.proofs.lemmas.Result.{IfOk-equal}
use Rattle.trial_libraries.specs.Units.{parameters}
use Rattle.trial_libraries.proofs.units.put_parameters.Goals as goal

pub returns-in_ok-put_parameter-2 : goal.returns-in_ok-put_parameter-2
unfolding parameters
returns-in_ok-put_parameter-2 c = search (rules, IfOk-equal, append_assoc)

pub returns-else-number-eq0 : goal.returns-else-number-eq0
unfolding parameters
returns-else-number-eq0 c = search (rules, IfOk-equal, append_assoc)
