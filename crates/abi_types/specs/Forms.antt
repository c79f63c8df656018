-- The form that a view has for each kind.
use Rattle.std.specs.Prelude.{◌≡◌, ℕ, Bool, true, false, List, [], ◌∷◌, Option, Some, None, IfSome}
use Rattle.std.specs.List.{list_all}
use Rattle.abi_types.specs.declared.kind.Kind.{Kind}
use Rattle.abi_types.specs.declared.kind.Kind.TheVariants as kind
use Rattle.abi_types.specs.declared.kind.Group.TheVariants as group
use Rattle.abi_types.specs.declared.place.Place.TheVariants as place
use Rattle.abi_types.specs.declared.place.CallShape.{CallShape}
use Rattle.abi_types.specs.Types.{PlainPart, Member, Enumerator, Target, Element, Outcome, Param, PlainView}

-- the kinds that have a tag and can be declared without a definition
abbrev pub has_tag : Kind → Bool
has_tag kind.Enumeration = true
has_tag kind.Structure = true
has_tag kind.Union = true
has_tag other = false

abbrev pub is_scalar : Kind → Bool
is_scalar kind.Scalar = true
is_scalar other = false

-- the kinds that consist of elements of one type
abbrev pub has_elements : Kind → Bool
has_elements kind.Array = true
has_elements kind.Vector = true
has_elements other = false

abbrev pub is_function : Kind → Bool
is_function kind.Function = true
is_function other = false

abbrev pub is_array : Kind → Bool
is_array kind.Array = true
is_array other = false

-- the kinds whose objects consist of other objects
abbrev pub is_aggregate : Kind → Bool
is_aggregate kind.Structure = true
is_aggregate kind.Union = true
is_aggregate kind.Array = true
is_aggregate other = false

-- the kinds whose objects are leaves
abbrev pub is_leaf : Kind → Bool
is_leaf kind.Scalar = true
is_leaf kind.Pointer = true
is_leaf kind.Enumeration = true
is_leaf kind.Vector = true
is_leaf other = false

-- the size that all types of a kind share, if any
abbrev pub size_of_kind : Kind → Option ℕ
size_of_kind kind.Void = Some 0
size_of_kind kind.Pointer = Some 8
size_of_kind kind.Function = Some 0
size_of_kind other = None

abbrev pub is_member : PlainPart → Bool
is_member (Member name bit width to) = true
is_member other = false

abbrev pub is_enumerator : PlainPart → Bool
is_enumerator (Enumerator name value) = true
is_enumerator other = false

abbrev pub is_param : PlainPart → Bool
is_param (Param to) = true
is_param other = false

abbrev pub is_one_target : List PlainPart → Bool
is_one_target (Target to ∷ []) = true
is_one_target other = false

abbrev pub is_one_element : List PlainPart → Bool
is_one_element (Element to ∷ []) = true
is_one_element other = false

-- a result, followed by parameters
abbrev pub are_of_function : List PlainPart → Bool
are_of_function (Outcome to ∷ parts) = list_all is_param parts
are_of_function other = false

abbrev pub are_none : List PlainPart → Bool
are_none [] = true
are_none (part ∷ parts) = false

-- the parts are those of a type of this kind
abbrev pub parts_fit : Kind → List PlainPart → Bool
parts_fit kind.Void parts = are_none parts
parts_fit kind.Scalar parts = are_none parts
parts_fit kind.Pointer parts = is_one_target parts
parts_fit kind.Enumeration parts = list_all is_enumerator parts
parts_fit kind.Structure parts = list_all is_member parts
parts_fit kind.Union parts = list_all is_member parts
parts_fit kind.Array parts = is_one_element parts
parts_fit kind.Vector parts = is_one_element parts
parts_fit kind.Function parts = are_of_function parts

-- no places, for types that are not functions
abbrev pub no_call : CallShape
no_call = record { outcome = place.Nothing; params = [] }

-- The view has the form of its kind: fields that the kind does not use are empty, and the parts are those of the kind. Any kind may
-- have an explicit alignment.
pub record HasForm (v : PlainView) : Type 0 where
  pub tag : has_tag v.kind ≡ false → v.tag ≡ []
  pub defined : has_tag v.kind ≡ false → v.declared_only ≡ false
  pub size : IfSome (size_of_kind v.kind) (λ size. v.size ≡ size)
  pub group : is_scalar v.kind ≡ false → v.group ≡ group.Bool
  pub count : has_elements v.kind ≡ false → v.count ≡ 0
  pub variadic : is_function v.kind ≡ false → v.variadic ≡ false
  pub call : is_function v.kind ≡ false → v.call ≡ no_call
  pub parts : parts_fit v.kind v.parts ≡ true
  pub unsized : v.declared_only ≡ true → v.size ≡ 0
  pub empty : v.declared_only ≡ true → v.parts ≡ []
