-- The leaves of objects: the scalars, pointers, enumerations and vectors that they consist of, with their offsets. Leaves decide
-- the classes of an object's eightbytes (System V psABI for x86-64, section 3.2.3 "Parameter Passing").
use Rattle.std.specs.Prelude.{◌≡◌, ℕ, ◌==◌, ◌+◌, if◌then◌else◌, List, [], ◌∷◌, Option, Some, None}
use Rattle.std.specs.List.{flat_map, range_with_len}
use Rattle.abi_types.specs.Types.{PlainView, PlainNode}
use Rattle.abi_types.specs.declared.leaf.Leaf.{Leaf}
use Rattle.abi_types.specs.Forms.{is_aggregate, is_leaf}
use Rattle.abi_types.specs.Graphs.{IsGraph, view_at}
use Rattle.abi_types.specs.Inside.{Inside, inside_at, count_inside}
use Rattle.abi_types.specs.ByValue.{by_value}

-- the leaf that an object is itself, at an offset in bits, and with a width where it is a bit field, else 0
abbrev pub leaf_of : PlainView → ℕ → ℕ → Leaf
leaf_of v bit width = record { kind = v.kind; group = v.group; size = v.size; bit = bit; width = width }

abbrev pub leaves_inside : (ℕ → ℕ → ℕ → List Leaf) → ℕ → Option Inside → List Leaf
leaves_inside f bit None = []
leaves_inside f bit (Some x) = f x.to (bit + x.bit) x.width

abbrev pub leaves_of_all : List PlainNode → (ℕ → ℕ → ℕ → List Leaf) → PlainView → ℕ → ℕ → List Leaf
leaves_of_all nodes f v bit n = flat_map (λ k. leaves_inside f bit (inside_at nodes v k)) (range_with_len 0 n)

-- an object of size 0, void and a function have no leaves
abbrev pub leaves_step : List PlainNode → (ℕ → ℕ → ℕ → List Leaf) → ℕ → ℕ → ℕ → List Leaf
leaves_step nodes f i bit width =
    if (view_at nodes i).size == 0 then [] else
    if is_leaf (view_at nodes i).kind then leaf_of (view_at nodes i) bit width ∷ [] else
    if is_aggregate (view_at nodes i).kind then leaves_of_all nodes f (view_at nodes i) bit (count_inside (view_at nodes i)) else []

abbrev pub no_leaves : ℕ → ℕ → List Leaf
no_leaves bit width = []

-- the leaves of the node's object, at an offset in bits, and with a width where it is a bit field, else 0: in the order of
-- members, and arrays element by element
unfoldable pub leaves_of : List PlainNode → ℕ → ℕ → ℕ → List Leaf
leaves_of nodes = by_value no_leaves (leaves_step nodes) nodes

-- an object's only leaf is itself, or its leaves are those of all objects inside it
abbrev pub LeavesAreThoseInside : Type 0
LeavesAreThoseInside = (nodes : List PlainNode) → IsGraph nodes → (i bit width : ℕ) → leaves_of nodes i bit width ≡ leaves_step nodes (leaves_of nodes) i bit width
