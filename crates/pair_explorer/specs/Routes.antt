-- Paths to visits. A path is its export and the positions of its parts, in order.
use Rattle.std.specs.Prelude.{ℕ, zero, suc, List, [], ◌∷◌, Option, Some, None, slice_get}
use Rattle.pair_explorer.specs.declared.visits.Parent.{Parent}
use Rattle.pair_explorer.specs.declared.visits.Parent.TheVariants.{Root, Step}
use Rattle.pair_explorer.specs.declared.visits.Visit.{Visit}
use Rattle.pair_rules.specs.Paths.{Path, From, Then}

-- the path, with more steps appended
abbrev pub followed : Path → List ℕ → Path
followed path [] = path
followed path (part ∷ later) = followed (Then path part) later

abbrev pub path_of : ℕ → List ℕ → Path
path_of export parts = followed (From export) parts

-- ---- the path that the parents spell

abbrev pub path_on : (ℕ → Path) → Parent → Path
path_on before (Root export) = From export
path_on before (Step m part) = Then (before m) part

abbrev pub path_by : (ℕ → Path) → Option Visit → Path
path_by before None = From 0
path_by before (Some v) = path_on before v.parent

-- the path back along at most this many parents
unfoldable pub path_within : ℕ → List Visit → ℕ → Path
path_within zero visits n = From 0
path_within (suc depth) visits n = path_by (path_within depth visits) (slice_get visits n)

-- the path to a visit; it has at most as many steps as visits stand before it
abbrev pub path_at : List Visit → ℕ → Path
path_at visits n = path_within (suc n) visits n
