-- Node numbers, ordered by the entries of the nodes.
use Rattle.std.specs.Prelude.{ℕ, List, length, IsPermutation}
use Rattle.std.specs.List.{range_with_len}
use Rattle.std.specs.List.Sorted.{IsNonDecreasingBy}
use Rattle.abi_types.specs.Types.{PlainNode}
use Rattle.abi_types.specs.Graphs.{node_at}

-- the entry of the node with this number
abbrev pub entry_at : List PlainNode → ℕ → ℕ
entry_at nodes i = (node_at nodes i).entry

-- the numbers of all nodes, ordered by entry
pub record IsEntryOrder (order : List ℕ) (nodes : List PlainNode) : Type 0 where
  pub all : IsPermutation (range_with_len 0 (length nodes)) order
  pub rises : IsNonDecreasingBy (entry_at nodes) order
