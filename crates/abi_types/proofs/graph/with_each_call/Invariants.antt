-- The nodes behind those whose calls are left have theirs.
use Rattle.std.proofs.Common.{◌≡◌, ◌<◌, ◌≤◌, ℕ, length, take, vec_len}
use Rattle.abi_types.specs.Graphs.{node_at, call_at, shaped_node}
use Rattle.abi_types.proofs.graph.with_each_call.Given as goal

abbrev pub decreases-loop-call : goal.decreases-loop-call
decreases-loop-call g l = vec_len l.calls

abbrev pub invariant-loop-call : goal.invariant-loop-call
invariant-loop-call g l = record {
  many : length l.nodes.items ≡ length l.fn.nodes.items;
  few : length l.calls.items ≤ length l.fn.nodes.items;
  calls : l.calls.items ≡ take (length l.calls.items) l.fn.calls.items;
  done : (k : ℕ) → length l.calls.items ≤ k → k < length l.fn.nodes.items → node_at l.nodes.items k ≡ shaped_node (node_at l.fn.nodes.items k) (call_at l.fn.calls.items k);
  left : (k : ℕ) → k < length l.calls.items → node_at l.nodes.items k ≡ node_at l.fn.nodes.items k;
}
