-- Nodes that take their parts from the nodes of their cores.
use Rattle.std.specs.Prelude.{◌≡◌, ◌<◌, ◌≤◌, ◌==◌, ℕ, suc, Bool, false, not, if◌then◌else◌, List, [], length, map, slice_get, Some, None}
use Rattle.dwarf_entries.specs.Debug.{PlainDwarf}
use Rattle.abi_types.specs.Types.{PlainPart, PlainView, PlainNode}
use Rattle.abi_types.specs.Graphs.{node_at}
use Rattle.type_reach.specs.References.{Type_}
use Rattle.type_reach.specs.Flat.{core_of}
use Rattle.type_graph.specs.Nodes.{made_node, found_types}

-- the core of a type is another entry than the type
abbrev pub is_other : Type_ → Type_ → Bool
is_other None r = false
is_other (Some c) None = false
is_other (Some c) (Some e) = not (c == e)

-- the view, without its parts where they are those of another entry
abbrev pub first_view : Bool → PlainView → PlainView
first_view other v = record v { parts = if other then [] else v.parts }

-- the node of a type, to which the parts of another entry are not yet given
abbrev pub first_node : PlainDwarf → List ℕ → Type_ → PlainNode
first_node d found r = record (made_node d found r) { view = first_view (is_other (core_of d r) r) (made_node d found r).view }

unfoldable pub first_nodes : PlainDwarf → List ℕ → List PlainNode
first_nodes d found = map (first_node d found) (found_types found)

-- the node with these parts
abbrev pub with_parts : PlainNode → List PlainPart → PlainNode
with_parts n parts = record n { view = record n.view { parts = parts } }

-- the nodes of void and of this many entries are whole, and the others await the parts of other entries
pub record AreShared (d : PlainDwarf) (found : List ℕ) (count : ℕ) (nodes : List PlainNode) : Type 0 where
  pub many : length nodes ≡ suc (length found)
  pub void : node_at nodes 0 ≡ made_node d found None
  pub done : (i e : ℕ) → slice_get found i ≡ Some e → i < count → node_at nodes (suc i) ≡ made_node d found (Some e)
  pub left : (i e : ℕ) → slice_get found i ≡ Some e → count ≤ i → node_at nodes (suc i) ≡ first_node d found (Some e)
