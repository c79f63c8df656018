use Rattle.std.proofs.Common.{◌≡◌, take}
use Rattle.type_reach.proofs.learning.in_order.Given as goal

abbrev pub invariant-found : goal.invariant-found
invariant-found l = l.order.items ≡ take l.number l.found
