-- What a change of call places leaves unchanged.
use Rattle.std.specs.Prelude.{◌≡◌, ℕ, List, length, count_by}
use Rattle.abi_types.specs.declared.place.CallShape.{CallShape}
use Rattle.abi_types.specs.Types.{PlainPart, PlainNode}
use Rattle.abi_types.specs.Forms.{is_param}
use Rattle.abi_types.specs.Graphs.{IsGraph, node_at, shaped, params_of}

-- the second node is the first, except for the places of its call
abbrev pub IsSameButCall : PlainNode → PlainNode → Type 0
IsSameButCall n m = m ≡ record n { view = record n.view { call = m.view.call } }

-- only the places of calls change: there are as many nodes, and each is otherwise the same
pub record ShapesChangeCallsAlone (nodes : List PlainNode) (calls : List CallShape) : Type 0 where
  pub many : length (shaped nodes calls) ≡ length nodes
  pub nodes_stay : (i : ℕ) → IsSameButCall (node_at nodes i) (node_at (shaped nodes calls) i)
  pub graph : IsGraph nodes → IsGraph (shaped nodes calls)

-- there are as many types of parameters as parameters
abbrev pub ParamsAreCounted : Type 0
ParamsAreCounted = (parts : List PlainPart) → length (params_of parts) ≡ count_by is_param parts
