-- The state of a search for the structure with a tag.
use Rattle.std.specs.Prelude.{nat_lt, ℕ, if◌then◌else◌, List, Option, Some, None}
use Rattle.abi_types.specs.Types.{PlainNode}
use Rattle.abi_types.specs.Graphs.{node_at, view_at}
use Rattle.type_print.specs.Structures.{has_layout}

-- the node with the earlier entry, where there are two
abbrev pub earlier_of : List PlainNode → Option ℕ → ℕ → ℕ
earlier_of nodes None i = i
earlier_of nodes (Some other) i = if nat_lt (node_at nodes other).entry (node_at nodes i).entry then other else i

abbrev pub found_of : List PlainNode → List ℕ → Option ℕ → ℕ → Option ℕ
found_of nodes tag found i = if has_layout (view_at nodes i) tag then Some (earlier_of nodes found i) else found
