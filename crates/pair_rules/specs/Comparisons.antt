-- The matches of all parts of an old type in a new one.
use Rattle.std.specs.Prelude.{ℕ, if◌then◌else◌, List, [], length, map, Option, None}
use Rattle.std.specs.List.{range_with_len}
use Rattle.abi_types.specs.Types.{PlainView}
use Rattle.pair_rules.specs.Matching.{match_of}
use Rattle.pair_rules.specs.TypeRules.{are_compared}

-- the match of each part of `v`; empty where parts are not compared
unfoldable pub matches : PlainView → PlainView → List (Option ℕ)
matches v w = if are_compared v w then map (match_of v w) (range_with_len 0 (length v.parts)) else []

-- the match of part i of `v`, if parts are compared
unfoldable pub compared_match : PlainView → PlainView → ℕ → Option ℕ
compared_match v w i = if are_compared v w then match_of v w i else None
