use Rattle.std.proofs.Common.{◌≡◌, take}
use Rattle.std.specs.List.{flat_map}
use Rattle.cert_compose.specs.CertifiedChain.{chain_of}
use Rattle.cert_compose.specs.Losses.{lost_by}
use Rattle.cert_compose.proofs.types.lost_entries.Given as goal

abbrev pub invariant-loop-line : goal.invariant-loop-line
invariant-loop-line l = l.lost.items ≡ flat_map (lost_by (chain_of l.ground) l.middles) (take l.line-index l.lines)
