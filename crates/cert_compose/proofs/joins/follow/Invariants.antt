use Rattle.std.proofs.Common.{◌≡◌, ◌++◌, take}
use Rattle.std.specs.List.{flat_map}
use Rattle.cert_compose.specs.Joins.{followed_by}
use Rattle.cert_compose.proofs.joins.follow.Given as goal

abbrev pub invariant-loop-k : goal.invariant-loop-k
invariant-loop-k l = l.lines ≡ l.fn.lines ++ flat_map (followed_by l.alike l.key.0 l.key.1 l.key.2) (take l.k l.seconds)
