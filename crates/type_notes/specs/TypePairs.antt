-- Two types that are compared, as nodes of two graphs.
use Rattle.std.specs.Prelude.{◌≡◌, ◌<◌, List, length}
use Rattle.abi_types.specs.Graphs.{node_at, view_at}
use Rattle.abi_types.specs.Types.{PlainNode, PlainView}
use Rattle.type_notes.specs.Packing.{packed_nodes}
use Rattle.type_notes.specs.declared.type_pair.Packed.{Packed}
use Rattle.type_notes.specs.declared.type_pair.TypePair.{TypePair}

abbrev pub old_nodes : TypePair → List PlainNode
old_nodes p = p.old_graph.now

abbrev pub new_nodes : TypePair → List PlainNode
new_nodes p = p.new_graph.now

abbrev pub old_view : TypePair → PlainView
old_view p = view_at p.old_graph.now p.old

abbrev pub new_view : TypePair → PlainView
new_view p = view_at p.new_graph.now p.new

abbrev pub old_node : TypePair → PlainNode
old_node p = node_at p.old_graph.now p.old

abbrev pub new_node : TypePair → PlainNode
new_node p = node_at p.new_graph.now p.new

-- the lists say of each node of two graphs whether it is packed
pub record ArePacked (olds news : List PlainNode) (packed : Packed) : Type 0 where
  pub old : packed.old.now ≡ packed_nodes olds
  pub new : packed.new.now ≡ packed_nodes news

-- both are nodes of their graphs, and it is known which nodes are packed
pub record AreNodes (p : TypePair) : Type 0 where
  pub old : p.old < length p.old_graph.now
  pub new : p.new < length p.new_graph.now
  pub packed : ArePacked p.old_graph.now p.new_graph.now p.packed
