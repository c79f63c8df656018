-- What the lines before this one may take was taken.
use Rattle.std.proofs.Common.{take}
use Rattle.std.specs.List.{sum_by}
use Rattle.cert_compose.specs.CertifiedChain.{chain_of}
use Rattle.cert_compose.specs.Limits.{line_looks, line_parts}
use Rattle.cert_compose.specs.Spending.{TakesAtMost, room_of}
use Rattle.cert_compose.proofs.fitting.ask_joins.Given as goal

abbrev pub invariant-loop-line : goal.invariant-loop-line
invariant-loop-line l =
    TakesAtMost (room_of (chain_of l.ground)) l.room (sum_by (line_looks (chain_of l.ground) l.middles) (take l.line-index l.lines)) (sum_by (line_parts (chain_of l.ground) l.middles) (take l.line-index l.lines))
