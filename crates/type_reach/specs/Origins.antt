-- Functions that share their parameters: the first one that takes them from an entry is kept, and the others have the same ones.
use Rattle.std.specs.Prelude.{◌≡◌, ◌<◌, ◌==◌, ℕ, Bool, false, List, length, slice_get, All, Contains, Option, Some, None}
use Rattle.std.specs.BTreeMap.{get}
use Rattle.std.specs.Ordering.{nat_cmp}
use Rattle.dwarf_tree.specs.Trees.{PlainTree}
use Rattle.type_reach.specs.declared.origins.Origins.{Origins}
use Rattle.type_reach.specs.References.{params_under, param_types}
use Rattle.type_reach.specs.Views.{has_further}

-- the number of the first function that takes its parameters from an entry
abbrev pub number_under : Origins → ℕ → Option ℕ
number_under origins b = get nat_cmp origins.numbers b

abbrev pub is_some_entry : ℕ → Option ℕ → Bool
is_some_entry b (Some c) = c == b
is_some_entry b None = false

-- the rows of these functions have what stands below the entries
pub record AreOrigins (t : PlainTree) (rows : List (List ℕ)) (flags : List Bool) (origins : Origins) : Type 0 where
  pub parts : (b k : ℕ) → number_under origins b ≡ Some k → slice_get rows k ≡ Some (params_under t b)
  pub variadic : (b k : ℕ) → number_under origins b ≡ Some k → slice_get flags k ≡ Some (has_further t b)
  pub inside : (b k : ℕ) → number_under origins b ≡ Some k → All (λ (c : ℕ). c < length t.entries) (params_under t b)

-- all types of the parameters below the entries were met
pub record ArePassed (t : PlainTree) (origins : Origins) (met : List ℕ) : Type 0 where
  pub types : (b k f : ℕ) → number_under origins b ≡ Some k → Contains (param_types t b) (Some f) → Contains met f
