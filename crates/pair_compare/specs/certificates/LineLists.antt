-- Lines in the order in which they are found.
use Rattle.std.specs.Prelude.{◌≡◌, ◌<◌, ◌==◌, ℕ, if◌then◌else◌, List, Option, Some, None, length, slice_get, filter_map}
use Rattle.std.specs.List.{range_with_len}
use Rattle.type_classes.specs.Classes.{PlainClasses, rep_of}
use Rattle.abi_types.specs.Types.{PlainNode}
use Rattle.abi_types.specs.Graphs.{node_at}
use Rattle.pair_explorer.specs.declared.visits.Visit.{Visit}
use Rattle.cert_text.specs.Certs.{PairLine}
use Rattle.cert_check.specs.Compatible.{Sides}
use Rattle.pair_compare.specs.certificates.Lines.{bind_line}

-- the bind lines of the first exports
unfoldable pub binds_below : Sides → ℕ → List (ℕ × ℕ)
binds_below s n = filter_map (bind_line s) (range_with_len 0 n)

-- the line of a node that does not stand for its class
abbrev pub alike_line : PlainClasses → ℕ → Option (ℕ × ℕ)
alike_line c i = if rep_of c i == i then None else Some ((node_at c.nodes i).entry, (node_at c.nodes (rep_of c i)).entry)

-- the lines of the first nodes
unfoldable pub alike_below : PlainClasses → ℕ → List (ℕ × ℕ)
alike_below c n = filter_map (alike_line c) (range_with_len 0 n)

-- the line of a visit
abbrev pub pair_line : List PlainNode → List PlainNode → Visit → PairLine
pair_line old new v = ((node_at old v.old).entry, (node_at new v.new).entry, v.way)

-- the nodes of the visits are in the graphs
abbrev pub AreInside : List PlainNode → List PlainNode → List Visit → Type 0
AreInside old new visits = (n : ℕ) (v : Visit) → slice_get visits n ≡ Some v → (v.old < length old) × (v.new < length new)
