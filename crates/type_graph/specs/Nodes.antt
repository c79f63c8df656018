-- Nodes of a graph, read as the entries that they stand for.
use Rattle.std.specs.Prelude.{◌≡◌, ◌<◌, ℕ, suc, List, ◌∷◌, length, map, nat_eq, Some, None}
use Rattle.std.specs.List.{position_or_len}
use Rattle.dwarf_entries.specs.Debug.{PlainDwarf}
use Rattle.abi_types.specs.Types.{PlainPart, Member, Enumerator, Target, Element, Outcome, Param, PlainView, PlainNode}
use Rattle.abi_types.specs.Graphs.{node_at, view_at}
use Rattle.type_reach.specs.References.{Type_}
use Rattle.type_reach.specs.Reached.{IsMet}
use Rattle.type_reach.specs.ReachedList.{reached_of}
use Rattle.type_reach.specs.Facts.{facts_of}
use Rattle.type_reach.specs.Flat.{labels_of}
use Rattle.type_reach.specs.Views.{offset_of, view_by, view_of}

-- ---- views in which parts name something else

abbrev pub renamed_part : (ℕ → ℕ) → PlainPart → PlainPart
renamed_part f (Member name bit width to) = Member name bit width (f to)
renamed_part f (Enumerator name value) = Enumerator name value
renamed_part f (Target to) = Target (f to)
renamed_part f (Element to) = Element (f to)
renamed_part f (Outcome to) = Outcome (f to)
renamed_part f (Param to) = Param (f to)

unfoldable pub renamed : (ℕ → ℕ) → PlainView → PlainView
renamed f v = record v { parts = map (renamed_part f) v.parts }

-- ---- what nodes stand for

abbrev pub entry_named : List PlainNode → ℕ → ℕ
entry_named nodes i = (node_at nodes i).entry

-- The node stands for a type: its view, read through the nodes that its parts name, is the view of the type by offsets of
-- entries, and its labels are the type's, in their order.
pub record IsNodeOf (d : PlainDwarf) (nodes : List PlainNode) (i : ℕ) (r : Type_) : Type 0 where
  pub inside : i < length nodes
  pub entry : (node_at nodes i).entry ≡ offset_of d.tree r
  pub rank : (node_at nodes i).rank ≡ (facts_of d r).rank
  pub view : renamed (entry_named nodes) (view_at nodes i) ≡ view_of d r
  pub labels : (node_at nodes i).labels ≡ labels_of d r

-- nodes for exactly the reached entries and void
pub record AreNodesOf (d : PlainDwarf) (roots : List ℕ) (nodes : List PlainNode) : Type 0 where
  pub all : (r : Type_) → IsMet d.tree roots r → (i : ℕ) × IsNodeOf d nodes i r
  pub only : (i : ℕ) → i < length nodes → (r : Type_) × IsMet d.tree roots r × IsNodeOf d nodes i r

-- ---- the nodes that are made of entries

-- the number of a type's node: void is 0, and the entries stand in the order of the list
abbrev pub number_in : List ℕ → Type_ → ℕ
number_in found None = 0
number_in found (Some e) = suc (position_or_len (nat_eq e) found)

abbrev pub made_node : PlainDwarf → List ℕ → Type_ → PlainNode
made_node d found r = record { entry = offset_of d.tree r; rank = (facts_of d r).rank; view = view_by (number_in found) d r; labels = labels_of d r }

abbrev pub found_types : List ℕ → List Type_
found_types found = None ∷ map (λ e. Some e) found

unfoldable pub made_nodes : PlainDwarf → List ℕ → List PlainNode
made_nodes d found = map (made_node d found) (found_types found)

-- THE GRAPH: void, and then the entries that are reached from the roots, in order of offset. A law says that these nodes stand
-- for exactly the reached entries and void, where the types have no fault.
abbrev pub nodes_of : PlainDwarf → List ℕ → List PlainNode
nodes_of d roots = made_nodes d (reached_of d.tree roots)
