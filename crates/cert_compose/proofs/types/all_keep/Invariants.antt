use Rattle.std.proofs.Common.{◌≡◌, ◌<◌, ℕ, true, length, get_or}
use Rattle.cert_text.specs.Certs.{PairLine}
use Rattle.cert_compose.specs.CertifiedChain.{chain_of}
use Rattle.cert_compose.specs.Losses.{keeps_new}
use Rattle.cert_compose.proofs.types.all_keep.Given as goal

abbrev pub invariant-loop-line : goal.invariant-loop-line
invariant-loop-line l = (k : ℕ) (d : PairLine) → k < l.line-index → k < length l.lines → keeps_new (chain_of l.ground) l.first l.middle (get_or l.lines k d) ≡ true
