-- Members that end past their aggregates, as broken debugging information can describe them.
use Rattle.std.specs.Prelude.{ℕ, ◌==◌, ◌||◌, ◌&&◌, ◌+◌, ◌*◌, nat_lt, Bool, false, if◌then◌else◌, List, Option, Some, None}
use Rattle.std.specs.List.{list_any}
use Rattle.abi_types.specs.Types.{PlainPart, Member, Element, PlainView, PlainNode}
use Rattle.abi_types.specs.Forms.{is_aggregate}
use Rattle.abi_types.specs.Graphs.{view_at}
use Rattle.abi_types.specs.ByValue.{by_value}
use Rattle.psabi.specs.Alignment.{named_or}
use Rattle.psabi.specs.Psabi.{byte_bits}

-- The extent in bits of an object in the aggregate that contains it. A bit field has its width. A bit field with an aggregate type,
-- which C does not have, has the size of the aggregate.
abbrev pub extent : List PlainNode → ℕ → ℕ → ℕ
extent nodes width to = if width == 0 || is_aggregate (view_at nodes to).kind then byte_bits * (view_at nodes to).size else width

-- a member that ends past the aggregate
abbrev pub own_past : List PlainNode → PlainView → PlainPart → Bool
own_past nodes v (Member name bit width to) = nat_lt (byte_bits * v.size) (bit + extent nodes width to)
own_past nodes v other = false

-- the type to check next for a part: that of a member, or of the elements of a nonempty array
abbrev pub led_to : PlainView → PlainPart → Option ℕ
led_to v (Member name bit width to) = Some to
led_to v (Element to) = if v.count == 0 then None else Some to
led_to v other = None

abbrev pub part_past : List PlainNode → (ℕ → Bool) → PlainView → PlainPart → Bool
part_past nodes f v p = own_past nodes v p || named_or false f (led_to v p)

abbrev pub past_step : List PlainNode → (ℕ → Bool) → ℕ → Bool
past_step nodes f i = is_aggregate (view_at nodes i).kind && list_any (part_past nodes f (view_at nodes i)) (view_at nodes i).parts

-- a member of the node's object, or of an aggregate inside it, ends past the aggregate that contains it
unfoldable pub ends_past : List PlainNode → ℕ → Bool
ends_past nodes i = by_value false (past_step nodes) nodes i
