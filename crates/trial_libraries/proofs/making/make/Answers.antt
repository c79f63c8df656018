use Rattle.std.proofs.Common.{arith}
use Rattle.trial_libraries.proofs.FileLengths.{length-library-le}
use Rattle.trial_libraries.proofs.making.make.Goals as goal

pub returns-clause-short : goal.returns-clause-short
returns-clause-short c = rw c.in_ok-make_library.ensures (length-library-le c.args.n c.args.side (omega arith))
