-- What the types so far count.
use Rattle.std.proofs.Common.{◌≡◌, ◌-◌, ◌^◌, min, take}
use Rattle.std.specs.List.{sum_by}
use Rattle.abi_types.specs.Types.{PlainNode}
use Rattle.pair_rules.specs.Weights.{view_weight}
use Rattle.pair_rules.proofs.weights.weight_in.Given as goal

abbrev pub invariant-nodes : goal.invariant-nodes
invariant-nodes g l = l.weight ≡ min (sum_by (λ (n : PlainNode). view_weight n.view) (take l.number l.graph)) (2 ^ 64 - 1)
