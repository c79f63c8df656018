-- Parts of an old and a new type that name types to compare next.
use Rattle.std.specs.Prelude.{◌≡◌, ◌<◌, ℕ, true, if◌then◌else◌, List, length, Option, Some, None, IsSome}
use Rattle.std.specs.List.{filter_map, range_with_len}
use Rattle.abi_types.specs.Types.{PlainView}
use Rattle.abi_types.specs.Graphs.{part_at, to_of}
use Rattle.pair_rules.specs.Matching.{match_of, IsMatch}
use Rattle.pair_rules.specs.TypeRules.{are_compared}

-- the two positions, if the old part names a node and has a match
abbrev pub pair_of : ℕ → Option ℕ → Option ℕ → Option (ℕ × ℕ)
pair_of i (Some to) (Some j) = Some (i, j)
pair_of i named found = None

-- part i of `v` and its match, if it names a node: the target of a pointer, the element of an array or a vector, a
-- member, the result of a function or a parameter
unfoldable pub partner_at : PlainView → PlainView → ℕ → Option (ℕ × ℕ)
partner_at v w i = if are_compared v w then pair_of i (to_of (part_at v i)) (match_of v w i) else None

-- the positions of all partners, in the order of old parts
abbrev pub partners : PlainView → PlainView → List (ℕ × ℕ)
partners v w = filter_map (partner_at v w) (range_with_len 0 (length v.parts))

-- Both types have definitions and the same kind, part i of `v` exists and names a node, and part j of `w` is its match and names a
-- node too.
pub record IsPartner (v w : PlainView) (i j : ℕ) : Type 0 where
  pub compared : are_compared v w ≡ true
  pub old_inside : i < length v.parts
  pub old_named : IsSome (to_of (part_at v i))
  pub matched : IsMatch v w i j
  pub new_named : IsSome (to_of (part_at w j))
