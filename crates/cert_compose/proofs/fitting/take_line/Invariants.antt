-- What the middle types before this one may take was taken.
use Rattle.std.proofs.Common.{take}
use Rattle.std.specs.List.{sum_by}
use Rattle.cert_compose.specs.CertifiedChain.{chain_of}
use Rattle.cert_compose.specs.Limits.{middle_looks, middle_parts}
use Rattle.cert_compose.specs.Spending.{TakesAtMost}
use Rattle.cert_compose.proofs.fitting.take_line.Given as goal

abbrev pub invariant-loop-k : goal.invariant-loop-k
invariant-loop-k l = TakesAtMost l.fn.room l.room (sum_by (middle_looks (chain_of l.ground) l.line) (take l.k l.middles)) (sum_by (middle_parts (chain_of l.ground) l.line) (take l.k l.middles))
