-- The names of versions in a search tree.
use Rattle.std.specs.Prelude.{◌≡◌, ℕ, Bool, List}
use Rattle.std.specs.Borrow.{Bor}
use Rattle.std.specs.BTreeSet.{BTreeSet, contains_by}
use Rattle.std.specs.Cmp.Lexicographic.{slice_cmp}
use Rattle.std.specs.List.{list_any}
use Rattle.std.specs.Ordering.{nat_cmp}
use Rattle.std.specs.Str.{bytes_eq}

-- a search tree of names, and whether a name is in it
abbrev pub NameTree : Type 0
NameTree = BTreeSet (Bor (List ℕ))

abbrev pub has_name : NameTree → List ℕ → Bool
has_name known name = contains_by (λ k. slice_cmp nat_cmp name k.now) known

-- the tree has exactly these names
pub record AreNamed (known : NameTree) (names : List (List ℕ)) : Type 0 where
  pub each : (name : List ℕ) → has_name known name ≡ list_any (bytes_eq name) names
