-- The relation of children and parents, without counts of entries.
use Rattle.std.specs.Prelude.{◌≡◌, ◌<◌, ◌+◌, ℕ, length, Contains}
use Rattle.dwarf_tree.specs.Trees.{PlainTree, depth_at, children_of}

-- Entry i comes after entry e and is one deeper, and all entries between them are deeper than e.
pub record StandsBelow (t : PlainTree) (e i : ℕ) : Type 0 where
  pub after : e < i
  pub inside : i < length t.entries
  pub deep : depth_at t i ≡ depth_at t e + 1
  pub between : (k : ℕ) → e < k → k < i → depth_at t e < depth_at t k

-- an entry is the child of exactly one entry
pub record HasOneParent (t : PlainTree) (i : ℕ) : Type 0 where
  pub parent : ℕ
  pub child : Contains (children_of t parent) i
  pub alone : (other : ℕ) → Contains (children_of t other) i → other ≡ parent
