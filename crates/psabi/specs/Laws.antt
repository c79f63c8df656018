-- Properties of classes and places.
use Rattle.std.specs.Prelude.{◌≡◌, ◌↔◌, ◌<◌, ◌≤◌, ℕ, ◌+◌, true, List, length, take, Some, count_by, slice_get}
use Rattle.abi_types.specs.declared.kind.Kind.TheVariants as kind
use Rattle.abi_types.specs.declared.place.Slot.{Slot}
use Rattle.abi_types.specs.declared.place.Slot.TheVariants as slot
use Rattle.abi_types.specs.declared.place.Place.{Place}
use Rattle.abi_types.specs.declared.place.Place.TheVariants as place
use Rattle.abi_types.specs.declared.place.CallShape.{CallShape}
use Rattle.abi_types.specs.Types.{PlainNode}
use Rattle.abi_types.specs.Forms.{is_param}
use Rattle.abi_types.specs.Graphs.{IsGraph, view_at, shaped}
use Rattle.abi_types.specs.Libraries.{HasPlaces}
use Rattle.psabi.specs.declared.class.Class.{Class}
use Rattle.psabi.specs.declared.argument_registers.ArgumentRegisters.{ArgumentRegisters}
use Rattle.psabi.specs.Arguments.{goes_to_stack, rounded, step_of, taken_with}
use Rattle.psabi.specs.Calls.{call_of, calls_of}
use Rattle.psabi.specs.Classes.{classes_of}
use Rattle.psabi.specs.Counted.{Argument, arguments_of, bytes_before, AreCounted, HoldsItsCount, IsFirstFrom}
use Rattle.psabi.specs.Psabi.{object_limit, general_registers, vector_registers, stack_alignment, rdi}
use Rattle.psabi.specs.Rows.{all_memory_class}

-- ---- one object

-- an object larger than 64 bytes is in memory
abbrev pub LargeObjectsAreInMemory : Type 0
LargeObjectsAreInMemory = (nodes : List PlainNode) (i : ℕ) → IsGraph nodes → object_limit < (view_at nodes i).size → classes_of nodes i ≡ all_memory_class

-- an argument on the stack takes no registers
abbrev pub StackTakesNoRegister : Type 0
StackTakesNoRegister = (t : ArgumentRegisters) (size align : ℕ) (cs : List Class) → goes_to_stack t cs ≡ true → ((taken_with t size align cs).general ≡ t.general) × ((taken_with t size align cs).vector ≡ t.vector)

-- ---- the arguments of one call

-- a place holds a general register, or the lowest eightbyte of a vector register
abbrev pub HoldsGeneral : Place → ℕ → Type 0
HoldsGeneral (place.Registers slots) n = (k : ℕ) × (slice_get slots k ≡ Some (slot.General n))
HoldsGeneral other n = ⊥

abbrev pub HoldsVector : Place → ℕ → Type 0
HoldsVector (place.Registers slots) n = (k : ℕ) × (slice_get slots k ≡ Some (slot.Vector n))
HoldsVector other n = ⊥

-- the place of parameter a
abbrev pub IsPlaceOf : CallShape → ℕ → Place → Type 0
IsPlaceOf call a p = slice_get call.params a ≡ Some p

-- no two arguments share a register
abbrev pub ArgumentsShareNoRegister : Type 0
ArgumentsShareNoRegister = (nodes : List PlainNode) (i a b : ℕ) (p q : Place) → a < b → IsPlaceOf (call_of nodes i) a p → IsPlaceOf (call_of nodes i) b q → (n : ℕ) → (HoldsGeneral p n → HoldsGeneral q n → ⊥) × (HoldsVector p n → HoldsVector q n → ⊥)

-- arguments are only in argument registers
abbrev pub ArgumentsHoldTheirRegisters : Type 0
ArgumentsHoldTheirRegisters = (nodes : List PlainNode) (i a : ℕ) (p : Place) → IsPlaceOf (call_of nodes i) a p → (n : ℕ) → (HoldsGeneral p n → n < general_registers) × (HoldsVector p n → n < vector_registers)

-- where the result is hidden, its address is in rdi, which holds no argument
abbrev pub HiddenResultsKeepRdi : Type 0
HiddenResultsKeepRdi = (nodes : List PlainNode) (i a : ℕ) (p : Place) → (call_of nodes i).outcome ≡ place.Hidden → IsPlaceOf (call_of nodes i) a p → HoldsGeneral p rdi → ⊥

-- an argument on the stack begins at or after the end of each earlier one
abbrev pub StackPlacesAscend : Type 0
StackPlacesAscend = (nodes : List PlainNode) (i a b from size from' size' : ℕ) → a < b → IsPlaceOf (call_of nodes i) a (place.Stack from size) → IsPlaceOf (call_of nodes i) b (place.Stack from' size') → from + size ≤ from'

-- each parameter has a place
abbrev pub EachParameterHasAPlace : Type 0
EachParameterHasAPlace = (nodes : List PlainNode) (i : ℕ) → (view_at nodes i).kind ≡ kind.Function → length (call_of nodes i).params ≡ count_by is_param (view_at nodes i).parts

-- the places of a function's call are the only list in which each argument has the place that counts over those before it give
abbrev pub PlacesAreCounted : Type 0
PlacesAreCounted = (nodes : List PlainNode) (f : ℕ) (places : List Place) → (view_at nodes f).kind ≡ kind.Function → (AreCounted (call_of nodes f).outcome (arguments_of nodes f) places ↔ (places ≡ (call_of nodes f).params))

-- an argument in registers has as many of each kind as its classes need
abbrev pub RegistersAreCounted : Type 0
RegistersAreCounted = (nodes : List PlainNode) (f k : ℕ) (a : Argument) (slots : List Slot) → (view_at nodes f).kind ≡ kind.Function → slice_get (arguments_of nodes f) k ≡ Some a → IsPlaceOf (call_of nodes f) k (place.Registers slots) → HoldsItsCount a slots

-- the rounded offset is the first multiple of the step
abbrev pub RoundedIsFirst : Type 0
RoundedIsFirst = (from align : ℕ) → IsFirstFrom from (step_of align) (rounded from (step_of align))

-- if no argument up to this one has an alignment of 16 or more, its offset is the sum of the sizes of the places before it
abbrev pub StackPlacesAddUp : Type 0
StackPlacesAddUp = (nodes : List PlainNode) (f k offset size : ℕ) → (view_at nodes f).kind ≡ kind.Function → ((j : ℕ) (a : Argument) → j ≤ k → slice_get (arguments_of nodes f) j ≡ Some a → a.align < stack_alignment) → IsPlaceOf (call_of nodes f) k (place.Stack offset size) → offset ≡ bytes_before (take k (call_of nodes f).params)

-- ---- graphs with their calls

-- the call shape of a node does not depend on the call shapes in the graph
abbrev pub CallsStayInShapedGraphs : Type 0
CallsStayInShapedGraphs = (nodes : List PlainNode) (calls : List CallShape) → IsGraph nodes → (i : ℕ) → call_of (shaped nodes calls) i ≡ call_of nodes i

-- In a graph that is given its nodes' call shapes, each node has its own call shape, and each parameter of a function has a place.
abbrev pub GivenCallsAreRight : Type 0
GivenCallsAreRight = (nodes : List PlainNode) → IsGraph nodes → (i : ℕ) → (view_at (shaped nodes (calls_of nodes)) i).call ≡ call_of (shaped nodes (calls_of nodes)) i

abbrev pub GivenCallsHavePlaces : Type 0
GivenCallsHavePlaces = (nodes : List PlainNode) → IsGraph nodes → (i : ℕ) → HasPlaces (view_at (shaped nodes (calls_of nodes)) i)
