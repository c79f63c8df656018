-- The leaves of an object, merged in order into the classes of its eightbytes.
use Rattle.std.specs.Prelude.{◌≡◌, ◌<◌, ℕ, ◌&&◌, true, if◌then◌else◌, List, length}
use Rattle.std.specs.List.{fold, list_all}
use Rattle.abi_types.specs.declared.leaf.Leaf.{Leaf}
use Rattle.psabi.specs.declared.class.Class.{Class}
use Rattle.psabi.specs.declared.class.Class.TheVariants.{NoClass}
use Rattle.psabi.specs.declared.eightbytes.Eightbytes.{Eightbytes}
use Rattle.psabi.specs.Class.{class_at, merge}
use Rattle.psabi.specs.Psabi.{eightbyte_limit}
use Rattle.psabi.specs.Rows.{one}
use Rattle.psabi.specs.Touching.{touches, class_in, is_aligned}

-- the class of an eightbyte after one more leaf
unfoldable pub merge_leaf : ℕ → Class → Leaf → Class
merge_leaf k c l = if touches l k then merge c (class_in l k) else c

abbrev pub nothing_merged : Eightbytes
nothing_merged = record { classes = one NoClass; aligned = true }

-- the eightbytes after these leaves
pub record MergesLeaves (leaves : List Leaf) (old new : Eightbytes) : Type 0 where
  pub aligned : new.aligned ≡ (old.aligned && list_all is_aligned leaves)
  pub many : length old.classes ≡ eightbyte_limit → length new.classes ≡ eightbyte_limit
  pub classes : (k : ℕ) → k < eightbyte_limit → class_at new.classes k ≡ fold (merge_leaf k) (class_at old.classes k) leaves
