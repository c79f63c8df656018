-- The order of names as keys of search trees.
use Rattle.std.specs.Prelude.{ℕ, List}
use Rattle.std.specs.declared.cmp.Ordering.{Ordering}
use Rattle.std.specs.Ordering.{nat_cmp, ordering_then}
use Rattle.std.specs.Cmp.Lexicographic.{slice_cmp}
use Rattle.std.specs.Hash.FoldHasher.{initial, write, finish}

-- the hash code of a name, by which nearly all names differ
unfoldable pub code_of : List ℕ → ℕ
code_of name = finish (write initial name)

-- by their codes, and names of one code by their bytes
abbrev pub name_cmp : ℕ → List ℕ → ℕ → List ℕ → Ordering
name_cmp code name c n = ordering_then (nat_cmp code c) (slice_cmp nat_cmp name n)

-- by name, and those of one name by version
abbrev pub version_cmp : ℕ → List ℕ → List ℕ → ℕ → List ℕ → List ℕ → Ordering
version_cmp code name version c n v = ordering_then (name_cmp code name c n) (slice_cmp nat_cmp version v)
