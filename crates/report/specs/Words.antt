-- The words for kinds of types and groups of scalars, and the phrase for a change.
use Rattle.std.specs.Prelude.{ℕ, Bool, true, false, List, [], ◌∷◌, codes}
use Rattle.std.specs.List.{concat}
use Rattle.abi_types.specs.declared.kind.Kind.{Kind}
use Rattle.abi_types.specs.declared.kind.Kind.TheVariants as kind
use Rattle.abi_types.specs.declared.kind.Group.{Group}
use Rattle.abi_types.specs.declared.kind.Group.TheVariants as group

abbrev pub kind_of_type : Kind → List ℕ
kind_of_type kind.Void = codes "void"
kind_of_type kind.Scalar = codes "scalar"
kind_of_type kind.Pointer = codes "pointer"
kind_of_type kind.Enumeration = codes "enum"
kind_of_type kind.Structure = codes "struct"
kind_of_type kind.Union = codes "union"
kind_of_type kind.Array = codes "array"
kind_of_type kind.Vector = codes "vector"
kind_of_type kind.Function = codes "function"

abbrev pub group_word : Group → List ℕ
group_word group.Bool = codes "bool"
group_word group.Signed = codes "signed"
group_word group.Unsigned = codes "unsigned"
group_word group.Float = codes "float"
group_word group.Quad = codes "quad"
group_word group.Complex = codes "complex"
group_word group.Decimal = codes "decimal"

abbrev pub yes_or_no : Bool → List ℕ
yes_or_no true = codes "yes"
yes_or_no false = codes "no"

-- what changed, its old value, and its new value
abbrev pub changed : List ℕ → List ℕ → List ℕ → List ℕ
changed what old new = concat (what ∷ codes " " ∷ old ∷ codes ", now " ∷ new ∷ [])
