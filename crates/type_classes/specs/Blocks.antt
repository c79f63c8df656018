-- A partition of numbers into classes: each class occupies adjacent places in an order of the numbers, its marked ones first.
use Rattle.std.specs.Prelude.{◌≡◌, ◌≢◌, ◌+◌, ◌<◌, ◌≤◌, ◌↔◌, ◌⊎◌, ℕ, Bool, false, nat_lt, List, length, slice_index_or, slice_set, Contains}
use Rattle.type_classes.specs.declared.blocks.Block.{Block}
use Rattle.type_classes.specs.declared.blocks.Blocks.{Blocks}

-- ---- look-ups; past the end they give 0

abbrev pub at : List ℕ → ℕ → ℕ
at xs i = slice_index_or xs i 0

abbrev pub no_block : Block
no_block = record { first = 0; middle = 0; end = 0 }

abbrev pub block_at : List Block → ℕ → Block
block_at blocks c = slice_index_or blocks c no_block

abbrev pub first_at : List Block → ℕ → ℕ
first_at blocks c = (block_at blocks c).first

abbrev pub middle_at : List Block → ℕ → ℕ
middle_at blocks c = (block_at blocks c).middle

abbrev pub end_at : List Block → ℕ → ℕ
end_at blocks c = (block_at blocks c).end

-- ---- the layout

-- The order and the places are inverse to each other. A class has the numbers from its first place up to its end, at least one.
pub record IsLayout (n count : ℕ) (order place class first middle last : ℕ → ℕ) : Type 0 where
  pub order_inside : (i : ℕ) → i < n → order i < n
  pub place_inside : (x : ℕ) → x < n → place x < n
  pub placed : (i : ℕ) → i < n → place (order i) ≡ i
  pub ordered : (x : ℕ) → x < n → order (place x) ≡ x
  pub class_inside : (x : ℕ) → x < n → class x < count
  pub after_first : (x : ℕ) → x < n → first (class x) ≤ place x
  pub before_end : (x : ℕ) → x < n → place x < last (class x)
  pub own : (c i : ℕ) → c < count → first c ≤ i → i < last c → class (order i) ≡ c
  pub some : (c : ℕ) → c < count → first c < last c
  pub middle_low : (c : ℕ) → c < count → first c ≤ middle c
  pub middle_high : (c : ℕ) → c < count → middle c ≤ last c
  pub end_inside : (c : ℕ) → c < count → last c ≤ n

-- ---- the observable state of classes

-- how many numbers and how many classes there are
abbrev pub len_of : Blocks → ℕ
len_of b = length b.order.items

abbrev pub count_of : Blocks → ℕ
count_of b = length b.blocks.items

-- the class of a number
abbrev pub class_in : Blocks → ℕ → ℕ
class_in b x = at b.class.items x

-- whether a number is marked
unfoldable pub mark_at : List ℕ → List ℕ → List Block → ℕ → Bool
mark_at place class blocks x = nat_lt (at place x) (middle_at blocks (at class x))

abbrev pub is_marked : Blocks → ℕ → Bool
is_marked b = mark_at b.place.items b.class.items b.blocks.items

-- the lists are as long as there are numbers, and form a layout
pub record IsLaidOut (order place class : List ℕ) (blocks : List Block) : Type 0 where
  pub places : length place ≡ length order
  pub classes : length class ≡ length order
  pub layout : IsLayout (length order) (length blocks) (at order) (at place) (at class) (first_at blocks) (middle_at blocks) (end_at blocks)

abbrev pub AreBlocks : Blocks → Type 0
AreBlocks b = IsLaidOut b.order.items b.place.items b.class.items b.blocks.items

-- all classes with marks are listed
pub record ListsMarks (b : Blocks) : Type 0 where
  pub listed : (c : ℕ) → c < count_of b → first_at b.blocks.items c < middle_at b.blocks.items c → Contains b.touched.items c
  pub inside : (c : ℕ) → Contains b.touched.items c → c < count_of b

-- no number is marked
abbrev pub HasNoMarks : Blocks → Type 0
HasNoMarks b = (x : ℕ) → x < len_of b → is_marked b x ≡ false

-- two numbers are in one class, and both are marked or neither
abbrev pub AreTogether : Blocks → ℕ → ℕ → Type 0
AreTogether b x y = (class_in b x ≡ class_in b y) × (is_marked b x ≡ is_marked b y)

-- The same numbers are together as before, and each class comes from an old one: an old class from itself.
pub record KeepsTogether (old new : Blocks) : Type 0 where
  pub len : len_of new ≡ len_of old
  pub count : count_of old ≤ count_of new
  pub together : (x y : ℕ) → x < len_of old → y < len_of old → AreTogether new x y ↔ AreTogether old x y
  pub origin : ℕ → ℕ
  pub origins : (x : ℕ) → x < len_of old → origin (class_in new x) ≡ class_in old x
  pub own_origins : (c : ℕ) → c < count_of old → origin c ≡ c

-- ---- single steps

-- A block is split into its marked part and the rest, in either order, without marks.
pub record IsPart (part : Block) (first last : ℕ) : Type 0 where
  pub first_is : part.first ≡ first
  pub middle_is : part.middle ≡ first
  pub end_is : part.end ≡ last

abbrev pub IsSplitOf : Block → Block → Block → Type 0
IsSplitOf whole one other =
    (IsPart one whole.first whole.middle × IsPart other whole.middle whole.end)
    ⊎ (IsPart one whole.middle whole.end × IsPart other whole.first whole.middle)

-- the middle of a class is one higher
abbrev pub advanced : List Block → ℕ → Block
advanced blocks c = record { first = first_at blocks c; middle = middle_at blocks c + 1; end = end_at blocks c }

pub record IsAdvanced (old new : Blocks) (c : ℕ) : Type 0 where
  pub order : new.order ≡ old.order
  pub place : new.place ≡ old.place
  pub class : new.class ≡ old.class
  pub touched : new.touched ≡ old.touched
  pub blocks : new.blocks.items ≡ slice_set old.blocks.items c (advanced old.blocks.items c)

-- the numbers at two places are swapped, and everything else is unchanged
pub record IsSwapped (old new : Blocks) (one other : ℕ) : Type 0 where
  pub order : new.order.items ≡ slice_set (slice_set old.order.items one (at old.order.items other)) other (at old.order.items one)
  pub place : new.place.items ≡ slice_set (slice_set old.place.items (at old.order.items other) one) (at old.order.items one) other
  pub class : new.class ≡ old.class
  pub blocks : new.blocks ≡ old.blocks
  pub touched : new.touched ≡ old.touched

-- A class is split into its marked numbers and the others, if it has both, and loses its marks.
pub record IsSplitAt (old new : Blocks) (c : ℕ) : Type 0 where
  pub blocks : AreBlocks new
  pub keeps : KeepsTogether old new
  pub touched : new.touched ≡ old.touched
  pub marks : (d : ℕ) → d < count_of new → first_at new.blocks.items d < middle_at new.blocks.items d → (d < count_of old) × (first_at old.blocks.items d < middle_at old.blocks.items d) × (d ≢ c)

-- all numbers of a block are marked, or none is
abbrev pub IsWhole : Block → Type 0
IsWhole b = (b.middle ≡ b.first) ⊎ (b.middle ≡ b.end)
