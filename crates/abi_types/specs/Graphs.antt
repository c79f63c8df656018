-- Lists of nodes that are graphs of types.
use Rattle.std.specs.Prelude.{◌≡◌, ◌<◌, ◌≤◌, ◌+◌, ◌*◌, ◌==◌, ℕ, true, false, List, [], length, Option, Some, None, slice_index_or, find, map, filter_map, if◌then◌else◌}
use Rattle.std.specs.List.{sum_by, range_with_len}
use Rattle.abi_base.specs.Limits.{depth_limit}
use Rattle.abi_types.specs.declared.kind.Kind.TheVariants as kind
use Rattle.abi_types.specs.declared.kind.Group.TheVariants as group
use Rattle.abi_types.specs.declared.place.CallShape.{CallShape}
use Rattle.abi_types.specs.Types.{PlainPart, Member, Enumerator, Target, Element, Outcome, Param, PlainView, PlainNode}
use Rattle.abi_types.specs.Forms.{has_elements, is_function, no_call, HasForm}
use Rattle.abi_types.specs.Limits.{size_limit, bit_limit, align_limit, align_room, room_limit}

-- ---- look-ups; past the end they give a part without a node, or void

abbrev pub no_part : PlainPart
no_part = Enumerator [] 0

-- the part at a position
abbrev pub part_at : PlainView → ℕ → PlainPart
part_at v k = slice_index_or v.parts k no_part

abbrev pub void_view : PlainView
void_view = record {
  kind = kind.Void;
  declared_only = false;
  tag = [];
  size = 0;
  group = group.Bool;
  align = 0;
  count = 0;
  variadic = false;
  parts = [];
  call = no_call;
}

abbrev pub void_node : PlainNode
void_node = record { entry = 0; rank = 0; view = void_view; labels = [] }

-- the node with this number, and its view
abbrev pub node_at : List PlainNode → ℕ → PlainNode
node_at nodes i = slice_index_or nodes i void_node

abbrev pub view_at : List PlainNode → ℕ → PlainView
view_at nodes i = (node_at nodes i).view

-- the number of the first node with this entry
unfoldable pub node_of : List PlainNode → ℕ → Option ℕ
node_of nodes entry = find (λ i. (node_at nodes i).entry == entry) (range_with_len 0 (length nodes))

-- ---- graphs with call places

-- the call shape with this number
abbrev pub call_at : List CallShape → ℕ → CallShape
call_at calls i = slice_index_or calls i no_call

-- the node with this call, where it is a function
abbrev pub shaped_node : PlainNode → CallShape → PlainNode
shaped_node n call = if is_function n.view.kind then record n { view = record n.view { call = call } } else n

-- the nodes, with the call of each function replaced by the one with its number
unfoldable pub shaped : List PlainNode → List CallShape → List PlainNode
shaped nodes calls = map (λ i. shaped_node (node_at nodes i) (call_at calls i)) (range_with_len 0 (length nodes))

-- ---- the nodes that parts name

-- the node that a part names
abbrev pub to_of : PlainPart → Option ℕ
to_of (Member name bit width to) = Some to
to_of (Enumerator name value) = None
to_of (Target to) = Some to
to_of (Element to) = Some to
to_of (Outcome to) = Some to
to_of (Param to) = Some to

-- the node that a part names by value; the target of a pointer is not by value
abbrev pub inner_of : PlainPart → Option ℕ
inner_of (Target to) = None
inner_of other = to_of other

-- the type of a parameter, and the types of all parameters in order
abbrev pub param_of : PlainPart → Option ℕ
param_of (Param to) = Some to
param_of other = None

abbrev pub params_of : List PlainPart → List ℕ
params_of parts = filter_map param_of parts

-- ---- the invariants of a graph

-- a member's offset and width in bits are below the limit
abbrev pub KeepsBits : PlainPart → Type 0
KeepsBits (Member name bit width to) = (bit < bit_limit) × (width < bit_limit)
KeepsBits other = Unit {0}

-- the stack space that a parameter may take: its size and room for its alignment
abbrev pub room_of : List PlainNode → PlainPart → ℕ
room_of nodes (Param to) = (view_at nodes to).size + align_room
room_of nodes other = 0

abbrev pub rooms : List PlainNode → PlainView → ℕ
rooms nodes v = sum_by (room_of nodes) v.parts

-- the size of an array or a vector is that of its elements together
abbrev pub IsWhole : List PlainNode → PlainView → Type 0
IsWhole nodes v = (to : ℕ) → has_elements v.kind ≡ true → to_of (part_at v 0) ≡ Some to → v.size ≡ v.count * (view_at nodes to).size

-- the view respects the limits
pub record KeepsLimits (nodes : List PlainNode) (v : PlainView) : Type 0 where
  pub size : v.size ≤ size_limit
  pub count : v.count ≤ size_limit
  pub align : v.align ≤ align_limit
  pub bits : (k : ℕ) → KeepsBits (part_at v k)
  pub rooms : rooms nodes v ≤ room_limit

-- The list has all invariants of a graph. Cycles lead only through pointers, since the rank falls by value. No chain of by-value
-- steps is longer than the limit, since no rank exceeds it.
pub record IsGraph (nodes : List PlainNode) : Type 0 where
  pub void_first : 0 < length nodes
  pub void_kind : (view_at nodes 0).kind ≡ kind.Void
  pub void_entry : (node_at nodes 0).entry ≡ 0
  pub inside : (i k to : ℕ) → to_of (part_at (view_at nodes i) k) ≡ Some to → to < length nodes
  pub apart : (i j : ℕ) → i < length nodes → j < length nodes → (node_at nodes i).entry ≡ (node_at nodes j).entry → i ≡ j
  pub falls : (i k to : ℕ) → inner_of (part_at (view_at nodes i) k) ≡ Some to → (node_at nodes to).rank < (node_at nodes i).rank
  pub shallow : (i : ℕ) → (node_at nodes i).rank ≤ depth_limit
  pub forms : (i : ℕ) → HasForm (view_at nodes i)
  pub limits : (i : ℕ) → KeepsLimits nodes (view_at nodes i)
  pub whole : (i : ℕ) → IsWhole nodes (view_at nodes i)
