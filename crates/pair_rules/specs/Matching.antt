-- Matches between the parts of two types: the k-th one of a sort and name matches the k-th one of the same sort and name.
use Rattle.std.specs.Prelude.{◌≡◌, ◌<◌, ℕ, true, Option, length, take, filter}
use Rattle.abi_types.specs.Types.{PlainView}
use Rattle.abi_types.specs.Graphs.{part_at}
use Rattle.abi_types.specs.Parts.{like, place_of, like_before}

-- how many parts of `v` before part i are like it
abbrev pub number_of : PlainView → ℕ → ℕ
number_of v i = like_before v.parts (part_at v i) i

-- the position of the part of `w` that matches part i of `v`
unfoldable pub match_of : PlainView → PlainView → ℕ → Option ℕ
match_of v w i = place_of (like (part_at v i)) (number_of v i) w.parts

-- Part j of `w` is like part i of `v`, and each has equally many such parts before it.
pub record IsMatch (v w : PlainView) (i j : ℕ) : Type 0 where
  pub inside : j < length w.parts
  pub alike : like (part_at v i) (part_at w j) ≡ true
  pub as_many : length (filter (like (part_at v i)) (take j w.parts)) ≡ length (filter (like (part_at v i)) (take i v.parts))
