-- Types as plain data, the same for both libraries. Names are lists of bytes, and nodes are numbers.
use Rattle.std.specs.Prelude.{ℕ, Bool, List}
use Rattle.abi_types.specs.declared.kind.Kind.{Kind}
use Rattle.abi_types.specs.declared.kind.Group.{Group}
use Rattle.abi_types.specs.declared.kind.LabelKind.{LabelKind}
use Rattle.abi_types.specs.declared.place.CallShape.{CallShape}

-- one part of a type, with the node that it names
pub data PlainPart : Type 0 where
  Member : (name : List ℕ) (bit width to : ℕ) → PlainPart
  Enumerator : (name : List ℕ) (value : ℕ) → PlainPart
  Target : (to : ℕ) → PlainPart
  Element : (to : ℕ) → PlainPart
  Outcome : (to : ℕ) → PlainPart
  Param : (to : ℕ) → PlainPart

-- the view of a type
pub record PlainView : Type 0 where
  pub kind : Kind
  pub declared_only : Bool
  pub tag : List ℕ
  pub size : ℕ
  pub group : Group
  pub align : ℕ
  pub count : ℕ
  pub variadic : Bool
  pub parts : List PlainPart
  pub call : CallShape

-- a name under which rule files refer to a type
pub record PlainLabel : Type 0 where
  pub kind : LabelKind
  pub name : List ℕ

-- a node: its entry, its rank, its view, and its names
pub record PlainNode : Type 0 where
  pub entry : ℕ
  pub rank : ℕ
  pub view : PlainView
  pub labels : List PlainLabel
