-- What the lines before this one may take was taken.
use Rattle.std.proofs.Common.{take}
use Rattle.std.specs.List.{sum_by}
use Rattle.cert_compose.specs.CertifiedChain.{chain_of}
use Rattle.cert_compose.specs.Limits.{second_looks, second_parts}
use Rattle.cert_compose.specs.Spending.{TakesAtMost}
use Rattle.cert_compose.proofs.fitting.take_seconds.Given as goal

abbrev pub invariant-loop-k : goal.invariant-loop-k
invariant-loop-k l = TakesAtMost l.fn.room l.room (sum_by (second_looks l.middle) (take l.k l.seconds)) (sum_by (second_parts (chain_of l.ground) l.old l.middle) (take l.k l.seconds))
