use Rattle.std.proofs.Common.{◌≡◌, take}
use Rattle.std.specs.List.{flat_map}
use Rattle.cert_compose.specs.Joins.{joined_by}
use Rattle.cert_compose.proofs.joins.join.Given as goal

abbrev pub invariant-loop-line : goal.invariant-loop-line
invariant-loop-line l = l.lines ≡ flat_map (joined_by l.ones.alike.now l.others.alike.now l.others.pairs.now l.middles) (take l.line-index l.ones.pairs.now)
