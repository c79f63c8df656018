-- The objects inside aggregates: members of structures and unions, and elements of arrays, with one numbering for both.
use Rattle.std.specs.Prelude.{◌≡◌, ℕ, ◌*◌, if◌then◌else◌, List, length, Option, Some, None}
use Rattle.abi_types.specs.Types.{PlainPart, Member, PlainView, PlainNode}
use Rattle.abi_types.specs.Forms.{is_array}
use Rattle.abi_types.specs.Graphs.{view_at, part_at, inner_of}

-- an object inside an aggregate: its offset in bits, its width in bits where it is a bit field, else 0, and its node
pub record Inside : Type 0 where
  pub bit : ℕ
  pub width : ℕ
  pub to : ℕ

abbrev pub member_inside : PlainPart → Option Inside
member_inside (Member name bit width to) = Some (record { bit = bit; width = width; to = to })
member_inside other = None

-- element n of an array
abbrev pub element_inside : List PlainNode → Option ℕ → ℕ → Option Inside
element_inside nodes None n = None
element_inside nodes (Some to) n = Some (record { bit = 8 * (n * (view_at nodes to).size); width = 0; to = to })

-- the number of objects inside an aggregate: of elements, or of members
abbrev pub count_inside : PlainView → ℕ
count_inside v = if is_array v.kind then v.count else length v.parts

-- object k inside an aggregate, counted from 0
abbrev pub inside_at : List PlainNode → PlainView → ℕ → Option Inside
inside_at nodes v n = if is_array v.kind then element_inside nodes (inner_of (part_at v 0)) n else member_inside (part_at v n)

-- the type of each object inside is named by value by a part
abbrev pub PartsNameWhatIsInside : Type 0
PartsNameWhatIsInside = (nodes : List PlainNode) (v : PlainView) (n : ℕ) (x : Inside) → inside_at nodes v n ≡ Some x → (k : ℕ) × (inner_of (part_at v k) ≡ Some x.to)
