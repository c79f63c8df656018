use Rattle.std.proofs.Common.{[], ◌∷◌}
use Rattle.commands.proofs.lemmas.Stops.{readable_stops}
use Rattle.library_check.specs.Inputs.{pair_asks}
use Rattle.library_check.specs.Rows.Trial.{trial_passes}
use Rattle.library_check.specs.trial.Trials.{new_library, old_library}
use Rattle.library_check.proofs.trial.laws.a_trial_with_a_text_has_no_fault.Goals as goal

pub returns : goal.returns
returns c = λ n lines stop is stops. readable_stops pair_asks (trial_passes n) (old_library n ∷ new_library n ∷ []) is.readable stop stops
