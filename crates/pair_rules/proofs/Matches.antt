-- The k-th part of a sort and a name matches the k-th of that sort and name.
use Rattle.std.proofs.Common.{◌≡◌, ◌≤◌, ◌<◌, ℕ, true, List, Some, None, length, take, refl, sym, ◌∙◌}
use Rattle.std.specs.List.{filter}
use Rattle.abi_types.specs.Types.{PlainView}
use Rattle.abi_types.specs.Graphs.{part_at, no_part}
use Rattle.abi_types.specs.Parts.{like}
use Rattle.pair_rules.specs.Matching.{number_of, match_of, IsMatch}
use Rattle.pair_rules.proofs.lemmas.Parts.{like-same}
use Rattle.pair_rules.proofs.lemmas.Places.{place_of-some, place_of-at, place_of-none, place_of-found, number_of-filter}

pub IsMatch-from_some : (v w : PlainView) (i j : ℕ) → match_of v w i ≡ Some j → IsMatch v w i j
unfolding match_of
IsMatch-from_some v w i j e =
    let at = place_of-some (like (part_at v i)) (number_of v i) w.parts j no_part e in
    record { inside = at.0; alike = at.1; as_many = at.2 ∙ number_of-filter v i }

pub some_from_IsMatch : (v w : PlainView) (i j : ℕ) → IsMatch v w i j → match_of v w i ≡ Some j
unfolding match_of
some_from_IsMatch v w i j m =
    place_of-at (like (part_at v i)) (number_of v i) w.parts j no_part m.inside m.alike (m.as_many ∙ sym (number_of-filter v i))

-- no match: no more parts like it are there than stand before it
pub none_from_few : (v w : PlainView) (i : ℕ) → length (filter (like (part_at v i)) w.parts) ≤ length (filter (like (part_at v i)) (take i v.parts)) → match_of v w i ≡ None
unfolding match_of
none_from_few v w i few = place_of-none (like (part_at v i)) (number_of v i) w.parts (rw (number_of-filter v i) few)

pub few_from_none : (v w : PlainView) (i : ℕ) → match_of v w i ≡ None → length (filter (like (part_at v i)) w.parts) ≤ length (filter (like (part_at v i)) (take i v.parts))
unfolding match_of
few_from_none v w i none = rw (← number_of-filter v i) (place_of-found (like (part_at v i)) (number_of v i) w.parts none)

-- a match is inside
pub match-inside : (v w : PlainView) (i j : ℕ) → match_of v w i ≡ Some j → j < length w.parts
match-inside v w i j e = (IsMatch-from_some v w i j e).inside

-- of itself each part of a type is the match
pub match_of-same : (v : PlainView) (i : ℕ) → i < length v.parts → match_of v v i ≡ Some i
match_of-same v i inside = some_from_IsMatch v v i i (record { inside = inside; alike = like-same (part_at v i); as_many = refl })

pub ruleset inside = (match-inside)
