-- Arrows between numbers, and marked numbers.
use Rattle.std.specs.Prelude.{◌≡◌, ◌<◌, ◌+◌, ◌*◌, ℕ, Bool, true, false, List, [], ◌∷◌, Contains, slice_index_or}

-- the number is marked; a number past the end is not
abbrev pub IsMarked : List Bool → ℕ → Type 0
IsMarked marks m = slice_index_or marks m false ≡ true

-- arrows lead from the first number through these, in turn, to the last one
abbrev pub LeadsThrough : List (ℕ × ℕ) → List ℕ → ℕ → ℕ → Type 0
LeadsThrough arrows [] m z = m ≡ z
LeadsThrough arrows (n ∷ later) m z = Contains arrows (m, n) × LeadsThrough arrows later n z

-- the number is marked, or arrows lead from it to a marked one
pub record LeadsToMark (arrows : List (ℕ × ℕ)) (marks : List Bool) (m : ℕ) : Type 0 where
  pub through : List ℕ
  pub last : ℕ
  pub leads : LeadsThrough arrows through m last
  pub marked : IsMarked marks last

-- each marked number leads to one that was marked before
abbrev pub IsSpread : List (ℕ × ℕ) → List Bool → List Bool → Type 0
IsSpread arrows before marks = (m : ℕ) → IsMarked marks m → LeadsToMark arrows before m

-- what was marked before is still marked
abbrev pub KeepsMarks : List Bool → List Bool → Type 0
KeepsMarks before marks = (m : ℕ) → IsMarked before m → IsMarked marks m

-- if the arrow leads to a marked number, it comes from a marked one
abbrev pub IsClosedAt : List Bool → ℕ × ℕ → Type 0
IsClosedAt marks arrow = IsMarked marks arrow.1 → IsMarked marks arrow.0

-- each arrow to a marked number comes from a marked one
abbrev pub AreClosed : List (ℕ × ℕ) → List Bool → Type 0
AreClosed arrows marks = (arrow : ℕ × ℕ) → Contains arrows arrow → IsClosedAt marks arrow

-- the arrows come from numbers below the count
abbrev pub ComeFromInside : List (ℕ × ℕ) → ℕ → Type 0
ComeFromInside arrows count = (arrow : ℕ × ℕ) → Contains arrows arrow → arrow.0 < count

-- Passes over this many arrows take all that is no longer left, one byte's effort for each arrow.
pub record TakesPasses (arrows before after : ℕ) : Type 0 where
  pub passes : ℕ
  pub are : before ≡ after + passes * arrows
