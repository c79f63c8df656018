-- Ordered lists, and lists without their later duplicates.
use Rattle.std.specs.Prelude.{◌≡◌, ◌<◌, ◌⊎◌, ℕ, Bool, true, List, [], ◌∷◌, ◌++◌, Some, if◌then◌else◌, slice_get}
use Rattle.std.specs.List.{list_any}

-- each item precedes all later ones in the order R
abbrev pub Ascends : {X : Type 0} → (X → X → Type 0) → List X → Type 0
Ascends {X} R xs = (m n : ℕ) (x y : X) → m < n → slice_get xs m ≡ Some x → slice_get xs n ≡ Some y → R x y

-- the list, with x appended unless it holds the same item
abbrev pub with_first : {X : Type 0} → (X → X → Bool) → List X → X → List X
with_first same kept x = if list_any (same x) kept then kept else kept ++ x ∷ []

-- the list, and then the items of another that equal none before them
unfoldable pub firsts_after : {X : Type 0} → (X → X → Bool) → List X → List X → List X
firsts_after same kept [] = kept
firsts_after same kept (x ∷ xs) = firsts_after same (with_first same kept x) xs

-- the items of a list that equal none before them
abbrev pub firsts : {X : Type 0} → (X → X → Bool) → List X → List X
firsts same xs = firsts_after same [] xs

-- a kept item that is the same as y and not after it
pub record HasSame {X : Type 0} (same : X → X → Bool) (before : X → X → Type 0) (kept : List X) (y : X) : Type 0 where
  pub place : ℕ
  pub item : X
  pub at : slice_get kept place ≡ Some item
  pub is : same y item ≡ true
  pub order : before item y ⊎ (item ≡ y)

-- `kept` has the first of each group of equal items, in order: each of its items is from the list, no two are the same,
-- and each item of the list is kept, or the same as an earlier kept one.
pub record AreFirsts {X : Type 0} (same : X → X → Bool) (before : X → X → Type 0) (done kept : List X) : Type 0 where
  pub from : (k : ℕ) (x : X) → slice_get kept k ≡ Some x → (n : ℕ) × (slice_get done n ≡ Some x)
  pub once : (m n : ℕ) (x y : X) → slice_get kept m ≡ Some x → slice_get kept n ≡ Some y → same x y ≡ true → m ≡ n
  pub ascending : Ascends before kept
  pub there : (n : ℕ) (y : X) → slice_get done n ≡ Some y → HasSame same before kept y
