-- Lists that have an item for each node.
use Rattle.std.proofs.Common.{◌≡◌, ◌<◌, ℕ, List, length, map, get_or, zero-add}
use Rattle.std.specs.List.{range_with_len}
use Rattle.std.proofs.lemmas.List.FromFn.{length-map-range_with_len, get_or-map-range_with_len}

-- such a list has an item at each number
pub listed_inside : {X : Type 0} (f : ℕ → X) (n i : ℕ) (xs : List X) → i < n → xs ≡ map f (range_with_len 0 n) → i < length xs
listed_inside f n i xs inside is = rw (is, length-map-range_with_len f 0 n) inside

-- and it is the value at that number
pub listed_at : {X : Type 0} (f : ℕ → X) (n i : ℕ) (d : X) (xs : List X) → i < n → xs ≡ map f (range_with_len 0 n) → get_or xs i d ≡ f i
listed_at f n i d xs inside is = rw is (get_or-map-range_with_len f 0 n i i d inside (zero-add i))
