-- How much the comparison of two types counts, and how much two libraries allow.
use Rattle.std.specs.Prelude.{ℕ, ◌+◌, ◌-◌, ◌/◌, ◌^◌, List, length, min}
use Rattle.std.specs.List.{sum_by}
use Rattle.abi_base.specs.declared.limit.Limit.TheVariants.{PairParts}
use Rattle.abi_base.specs.Budgets.{allowed}
use Rattle.abi_types.specs.Types.{PlainPart, Member, Enumerator, PlainView, PlainNode}

-- the letters of the name of a part
abbrev pub letters_of : PlainPart → ℕ
letters_of (Member name bit width to) = length name
letters_of (Enumerator name value) = length name
letters_of other = 0

-- A part counts once, and once more for each 64 letters of its name.
abbrev pub part_weight : PlainPart → ℕ
part_weight part = 1 + letters_of part / 64

abbrev pub view_weight : PlainView → ℕ
view_weight v = sum_by part_weight v.parts

-- how much two types count that are compared, as a number of 64 bits
abbrev pub pair_weight : PlainView → PlainView → ℕ
pair_weight v w = min (view_weight v + view_weight w) (2 ^ 64 - 1)

-- how much all types of a library count
abbrev pub graph_weight : List PlainNode → ℕ
graph_weight nodes = sum_by (λ (n : PlainNode). view_weight n.view) nodes

-- the units by which the limit on compared parts grows, as a number of 38 bits
abbrev pub weight_units : List PlainNode → List PlainNode → ℕ
weight_units old new = min (graph_weight old + graph_weight new) (2 ^ 38 - 1)

-- how much the compared types of two libraries may count
abbrev pub weight_allowed : List PlainNode → List PlainNode → ℕ
weight_allowed old new = allowed PairParts (weight_units old new)
