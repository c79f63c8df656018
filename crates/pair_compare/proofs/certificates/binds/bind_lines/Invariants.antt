-- The lines of the exports before this one.
use Rattle.std.proofs.Common.{◌≡◌}
use Rattle.cert_check.specs.Compatible.{sides}
use Rattle.pair_compare.specs.certificates.LineLists.{binds_below}
use Rattle.pair_compare.proofs.certificates.binds.bind_lines.Given as goal

abbrev pub invariant-loop-k : goal.invariant-loop-k
invariant-loop-k l = l.lines ≡ binds_below (sides l.old l.new l.marks) l.k
