-- Nodes whose functions have shapes of calls.
use Rattle.std.proofs.Common.{◌≡◌, ◌<◌, ℕ, List, length, arith}
use Rattle.std.proofs.lemmas.List.FromFn.{get_or-map-range_with_len}
use Rattle.abi_types.specs.declared.place.CallShape.{CallShape}
use Rattle.abi_types.specs.Types.{PlainNode}
use Rattle.abi_types.specs.Graphs.{node_at, void_node, call_at, shaped_node, shaped}

pub node_at-shaped : (nodes : List PlainNode) (calls : List CallShape) (i : ℕ) → i < length nodes → node_at (shaped nodes calls) i ≡ shaped_node (node_at nodes i) (call_at calls i)
unfolding shaped
node_at-shaped nodes calls i inside = get_or-map-range_with_len (λ i. shaped_node (node_at nodes i) (call_at calls i)) 0 (length nodes) i i void_node inside (omega arith)
