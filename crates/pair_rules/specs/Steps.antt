-- The input of a comparison, and the steps from one pair of types to others.
use Rattle.std.specs.Prelude.{◌≡◌, ℕ, Bool, true, false, if◌then◌else◌, List, Option, Some, None, slice_index_or}
use Rattle.abi_types.specs.declared.kind.Way.{Way}
use Rattle.abi_types.specs.declared.kind.Way.TheVariants as way
use Rattle.abi_types.specs.Types.{PlainView, PlainNode}
use Rattle.abi_types.specs.Graphs.{part_at, view_at, to_of}
use Rattle.pair_rules.specs.declared.rules.Broken.{Broken}
use Rattle.pair_rules.specs.TypeRules.{breaks}
use Rattle.pair_rules.specs.Partners.{partner_at, IsPartner}
use Rattle.pair_rules.specs.Ways.{after}

-- the types of an old export and of the new one to which it binds, as node numbers
pub record PlainRoot : Type 0 where
  pub export : ℕ
  pub old : ℕ
  pub new : ℕ

-- two graphs, the marks of the old nodes for each way, and the pairs to begin with
pub record Task : Type 0 where
  pub old : List PlainNode
  pub new : List PlainNode
  pub direct : List Bool
  pub pointer : List Bool
  pub roots : List PlainRoot

-- an old node, the new node in its place, and the way in which they are reached
pub record Triple : Type 0 where
  pub old : ℕ
  pub new : ℕ
  pub way : Way

abbrev pub is_pointer : Way → Bool
is_pointer way.Direct = false
is_pointer way.Pointer = true

-- the marks for a way
abbrev pub marks_at : Task → Way → List Bool
marks_at t way.Direct = t.direct
marks_at t way.Pointer = t.pointer

-- whether an old node is marked for a way; no number past the end is
abbrev pub is_marked : Task → ℕ → Way → Bool
is_marked t a at = slice_index_or (marks_at t at) a false

-- the rules that the types of a triple break
abbrev pub breaks_of : Task → Triple → List Broken
breaks_of t x = breaks (view_at t.old x.old) (view_at t.new x.new)

-- the nodes that two parts name, if both name one
abbrev pub triple_of : Way → Option ℕ → Option ℕ → Option Triple
triple_of at (Some a) (Some b) = Some (record { old = a; new = b; way = at })
triple_of at a b = None

-- the triple to which two partners lead
abbrev pub led_by : PlainView → PlainView → Way → Option (ℕ × ℕ) → Option Triple
led_by v w at None = None
led_by v w at (Some p) = triple_of (after at (part_at v p.0)) (to_of (part_at v p.0)) (to_of (part_at w p.1))

-- the triple to which part i of `v` and its partner lead, if `v` is reached in a given way
unfoldable pub next_of : PlainView → PlainView → Way → ℕ → Option Triple
next_of v w at i = led_by v w at (partner_at v w i)

-- The triple to which part i of the old type leads: that of the nodes which the part and its partner name. No step leads on from an
-- old node that is marked for its way.
unfoldable pub step : Task → Triple → ℕ → Option Triple
step t x i = if is_marked t x.old x.way then None else next_of (view_at t.old x.old) (view_at t.new x.new) x.way i

-- Part i of the old type leads from the first triple to the second: the old node is not marked for its way, part i exists and has
-- a partner, and the two parts name the nodes of the second triple.
pub record IsStep (t : Task) (x : Triple) (i : ℕ) (y : Triple) : Type 0 where
  pub unmarked : is_marked t x.old x.way ≡ false
  pub new_part : ℕ
  pub partners : IsPartner (view_at t.old x.old) (view_at t.new x.new) i new_part
  pub old : to_of (part_at (view_at t.old x.old) i) ≡ Some y.old
  pub new : to_of (part_at (view_at t.new x.new) new_part) ≡ Some y.new
  pub way : y.way ≡ after x.way (part_at (view_at t.old x.old) i)
