use Rattle.std.proofs.Common.{◌≡◌, take}
use Rattle.std.specs.List.{flat_map}
use Rattle.cert_text.specs.Certs.{both_ways}
use Rattle.cert_text.proofs.first.with_both_ways.Given as goal

abbrev pub invariant-loop-line : goal.invariant-loop-line
invariant-loop-line l = l.pairs ≡ flat_map both_ways (take l.line-index l.lines)
