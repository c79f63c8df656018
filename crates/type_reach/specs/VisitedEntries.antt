-- The entries that a walk has met, and their storage: the list, and a mark for each entry of the tree.
use Rattle.std.specs.Prelude.{◌≡◌, ℕ, Bool, false, List, length, filter, nat_eq, slice_index_or}
use Rattle.std.specs.List.{IsDistinct, range_with_len}
use Rattle.type_reach.specs.Reached.{was_found}

-- the entries met, in order of discovery, in a tree of this many
pub record PlainVisited : Type 0 where
  pub entries : List ℕ
  pub room : ℕ

abbrev pub is_marked : List Bool → ℕ → Bool
is_marked marks e = slice_index_or marks e false

-- exactly the entries that were met are marked, and none was met twice
pub record AreMarked (marks : List Bool) (entries : List ℕ) : Type 0 where
  pub marked : (e : ℕ) → is_marked marks e ≡ was_found entries e
  pub once : IsDistinct nat_eq entries

-- the positions of marks, in order
unfoldable pub marked_places : List Bool → List ℕ
marked_places marks = filter (is_marked marks) (range_with_len 0 (length marks))

-- the found entries of a tree, by offset
unfoldable pub by_offset : List ℕ → ℕ → List ℕ
by_offset found room = filter (was_found found) (range_with_len 0 room)
