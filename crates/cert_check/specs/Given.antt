-- The lines that a function gives for numbers, in the order of the numbers.
use Rattle.std.specs.Prelude.{◌≡◌, ◌<◌, ◌+◌, ◌++◌, ℕ, List, Option, Some, Contains, filter_map, option_to_list, slice_get}
use Rattle.std.specs.List.{range_with_len}

-- the lines for the numbers below a bound
abbrev pub given_below : (ℕ → Option (ℕ × ℕ)) → ℕ → List (ℕ × ℕ)
given_below line n = filter_map line (range_with_len 0 n)

-- the line is given for a number below the bound
pub record IsGivenBy (line : ℕ → Option (ℕ × ℕ)) (bound : ℕ) (x : ℕ × ℕ) : Type 0 where
  pub number : ℕ
  pub below : number < bound
  pub gives : line number ≡ Some x

-- the lines are given for two numbers below the bound, in this order
pub record AreGivenInOrder (line : ℕ → Option (ℕ × ℕ)) (bound : ℕ) (x y : ℕ × ℕ) : Type 0 where
  pub first : ℕ
  pub later : ℕ
  pub less : first < later
  pub below : later < bound
  pub gives_first : line first ≡ Some x
  pub gives_later : line later ≡ Some y

-- The line of the next number, if it has one, is appended. The list has exactly the lines of the numbers below the bound, in the
-- order of the numbers.
pub record StandInOrder (line : ℕ → Option (ℕ × ℕ)) : Type 0 where
  pub more : (n : ℕ) → given_below line (n + 1) ≡ given_below line n ++ option_to_list (line n)
  pub there : (n k : ℕ) (x : ℕ × ℕ) → k < n → line k ≡ Some x → Contains (given_below line n) x
  pub source : (n : ℕ) (x : ℕ × ℕ) → Contains (given_below line n) x → IsGivenBy line n x
  pub order : (n i j : ℕ) (x y : ℕ × ℕ) → i < j → slice_get (given_below line n) i ≡ Some x → slice_get (given_below line n) j ≡ Some y → AreGivenInOrder line n x y
