-- The look of a node, with other numbers for the nodes that its parts name.
use Rattle.std.specs.Prelude.{ℕ, List, map}
use Rattle.abi_types.specs.Types.{PlainPart, Member, Enumerator, Target, Element, Outcome, Param, PlainView, PlainLabel, PlainNode}

abbrev pub part_seen : (ℕ → ℕ) → PlainPart → PlainPart
part_seen f (Member name bit width to) = Member name bit width (f to)
part_seen f (Enumerator name value) = Enumerator name value
part_seen f (Target to) = Target (f to)
part_seen f (Element to) = Element (f to)
part_seen f (Outcome to) = Outcome (f to)
part_seen f (Param to) = Param (f to)

unfoldable pub view_seen : (ℕ → ℕ) → PlainView → PlainView
view_seen f v = record v { parts = map (part_seen f) v.parts }

-- the labels of a node and its view
pub record Look : Type 0 where
  pub labels : List PlainLabel
  pub view : PlainView

abbrev pub look_of : (ℕ → ℕ) → PlainNode → Look
look_of f n = record { labels = n.labels; view = view_seen f n.view }

-- the look of a node without the nodes that its parts name
abbrev pub shape_of : PlainNode → Look
shape_of = look_of (λ _. 0)
