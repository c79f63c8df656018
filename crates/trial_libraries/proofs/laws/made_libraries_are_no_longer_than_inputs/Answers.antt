use Rattle.trial_libraries.proofs.FileLengths.{length-library-le}
use Rattle.trial_libraries.proofs.laws.made_libraries_are_no_longer_than_inputs.Goals as goal

pub returns : goal.returns
returns c = length-library-le
