use Rattle.std.proofs.Common.{◌≡◌, take, map}
use Rattle.cert_text.specs.Certs.{without_way}
use Rattle.cert_text.proofs.first.without_ways.Given as goal

abbrev pub invariant-loop-line : goal.invariant-loop-line
invariant-loop-line l = l.pairs ≡ map without_way (take l.line-index l.lines)
