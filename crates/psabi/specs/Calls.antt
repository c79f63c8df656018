-- Call shapes: where calls pass their results and arguments (psABI, section 3.2.3 "Parameter Passing").
use Rattle.std.specs.Prelude.{ℕ, if◌then◌else◌, List, length, map}
use Rattle.std.specs.List.{range_with_len}
use Rattle.abi_types.specs.declared.place.CallShape.{CallShape}
use Rattle.abi_types.specs.Types.{PlainView, PlainNode}
use Rattle.abi_types.specs.Forms.{is_function, no_call}
use Rattle.abi_types.specs.Graphs.{view_at, params_of}
use Rattle.psabi.specs.Arguments.{places}
use Rattle.psabi.specs.Results.{outcome_of, registers_of_result}

-- the call of a function with this view
abbrev pub call_of_view : List PlainNode → PlainView → CallShape
call_of_view nodes v = record {
  outcome = outcome_of nodes v;
  params = places nodes (registers_of_result (outcome_of nodes v)) (params_of v.parts);
}

-- the call of a node, without places where it is not a function
unfoldable pub call_of : List PlainNode → ℕ → CallShape
call_of nodes i = if is_function (view_at nodes i).kind then call_of_view nodes (view_at nodes i) else no_call

-- the calls of all nodes
abbrev pub calls_of : List PlainNode → List CallShape
calls_of nodes = map (call_of nodes) (range_with_len 0 (length nodes))
