-- Splits of classes by pairs of keys and numbers.
use Rattle.std.specs.Prelude.{◌≡◌, ◌≢◌, ◌<◌, ◌≤◌, ◌↔◌, ◌==◌, ◌&&◌, ℕ, Bool, List, length, slice_index_or, take}
use Rattle.std.specs.List.{list_any}
use Rattle.type_classes.specs.declared.blocks.Blocks.{Blocks}
use Rattle.type_classes.specs.Blocks.{len_of, count_of, class_in, is_marked, AreBlocks, ListsMarks, HasNoMarks}

abbrev pub key_of : ℕ × ℕ → ℕ
key_of pair = pair.0

-- the key and the number of the pair at a position
abbrev pub key_at : List (ℕ × ℕ) → ℕ → ℕ
key_at pairs i = (slice_index_or pairs i (0, 0)).0

abbrev pub number_at : List (ℕ × ℕ) → ℕ → ℕ
number_at pairs i = (slice_index_or pairs i (0, 0)).1

-- whether a number is paired with a key
unfoldable pub stands_beside : List (ℕ × ℕ) → ℕ → ℕ → Bool
stands_beside pairs key x = list_any (λ pair. pair.0 == key && pair.1 == x) pairs

-- two numbers are paired with the same keys
abbrev pub HaveSameKeys : List (ℕ × ℕ) → ℕ → ℕ → Type 0
HaveSameKeys pairs x y = (key : ℕ) → stands_beside pairs key x ≡ stands_beside pairs key y

-- The pairs from a position up to the next share one key, and the numbers paired with it are marked.
pub record IsMarkedRun (old new : Blocks) (pairs : List (ℕ × ℕ)) (from next : ℕ) : Type 0 where
  pub blocks : AreBlocks new
  pub listed : ListsMarks new
  pub len : len_of new ≡ len_of old
  pub count : count_of new ≡ count_of old
  pub classes : (x : ℕ) → class_in new x ≡ class_in old x
  pub marks : (x : ℕ) → x < len_of old → is_marked new x ≡ stands_beside (take next pairs) (key_at pairs from) x
  pub more : from < next
  pub inside : next ≤ length pairs
  pub run : (i : ℕ) → from ≤ i → i < next → key_at pairs i ≡ key_at pairs from
  pub ends : next < length pairs → key_at pairs next ≢ key_at pairs from

-- Two numbers are in one class exactly where they were in one class and are paired with the same keys. Each class comes from an old
-- one: an old class from itself.
pub record IsSplitBy (old new : Blocks) (pairs : List (ℕ × ℕ)) : Type 0 where
  pub blocks : AreBlocks new
  pub listed : ListsMarks new
  pub unmarked : HasNoMarks new
  pub len : len_of new ≡ len_of old
  pub count : count_of old ≤ count_of new
  pub classes : (x y : ℕ) → x < len_of old → y < len_of old → (class_in new x ≡ class_in new y) ↔ ((class_in old x ≡ class_in old y) × HaveSameKeys pairs x y)
  pub origin : ℕ → ℕ
  pub origins : (x : ℕ) → x < len_of old → origin (class_in new x) ≡ class_in old x
  pub own_origins : (c : ℕ) → c < count_of old → origin c ≡ c
