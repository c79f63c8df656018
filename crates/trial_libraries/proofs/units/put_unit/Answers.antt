use Rattle.std.proofs.Common.{append_assoc, rules}
use Rattle.std.proofs.lemmas.Result.{IfOk-equal}
use Rattle.trial_libraries.specs.Units.{unit_of}
use Rattle.trial_libraries.proofs.units.put_unit.Goals as goal

pub returns : goal.returns
unfolding unit_of
returns c = search (rules, IfOk-equal, append_assoc)
