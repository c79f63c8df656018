use Rattle.std.proofs.Common.{append_assoc, rules}
use Rattle.std.proofs.lemmas.Result.{IfOk-equal}
use Rattle.trial_libraries.specs.Units.{structure}
use Rattle.trial_libraries.proofs.units.put_structure.Goals as goal

pub returns : goal.returns
unfolding structure
returns c = search (rules, IfOk-equal, append_assoc)
