use Rattle.trial_libraries.proofs.UnitRanges.{each_function_once}
use Rattle.trial_libraries.proofs.laws.units_have_each_function_once.Goals as goal

pub returns : goal.returns
returns c = each_function_once
