use Rattle.std.proofs.Common.{rules}
use Rattle.trial_libraries.specs.Libraries.{library}
use Rattle.trial_libraries.proofs.making.make_library.Goals as goal

pub returns : goal.returns
unfolding library
returns c = search rules
