-- Searches for the first position that fails.
use Rattle.std.specs.Prelude.{◌<◌, ℕ, Option, MatchOption}

-- this position is the first that fails
pub record IsFirst (P : ℕ → Type 0) (count k : ℕ) : Type 0 where
  pub inside : k < count
  pub before : (j : ℕ) → j < k → P j
  pub fails : P k → ⊥

-- none fails, or this one is the first
abbrev pub FindsFirst : (ℕ → Type 0) → ℕ → Option ℕ → Type 0
FindsFirst P count found = MatchOption found ((k : ℕ) → k < count → P k) (λ k. IsFirst P count k)
