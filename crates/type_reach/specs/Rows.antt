-- Rows of items, stored one after the other.
use Rattle.std.specs.Prelude.{◌≡◌, ◌≤◌, ℕ, List, [], ◌∷◌, slice_range}

-- the rows: the first begins at an index, and each other one where its predecessor ends
unfoldable pub rows_from : {X : Type 0} → List X → ℕ → List ℕ → List (List X)
rows_from items from [] = []
rows_from items from (end ∷ ends) = slice_range items from end ∷ rows_from items end ends

-- rows that begin at an index have ascending ends, and the last one ends with the items
abbrev pub EndInOrder : ℕ → List ℕ → ℕ → Type 0
EndInOrder from [] last = from ≡ last
EndInOrder from (end ∷ ends) last = (from ≤ end) × EndInOrder end ends last
