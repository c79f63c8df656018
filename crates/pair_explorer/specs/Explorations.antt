-- What an exploration returns.
use Rattle.std.specs.Prelude.{◌≡◌, ◌<◌, ◌*◌, ℕ, Bool, true, not, List, [], length, map, count_by, flat_map, Option, Some, None, slice_get, if◌then◌else◌}
use Rattle.std.specs.List.{range_with_len}
use Rattle.pair_rules.specs.declared.rules.Broken.{Broken}
use Rattle.pair_rules.specs.Steps.{PlainRoot, Task, Triple, is_marked, breaks_of, step}
use Rattle.pair_rules.specs.Paths.{Path, root_triple, IsBefore, IsNotAfter}
use Rattle.type_classes.specs.Classes.{class_count}
use Rattle.pair_explorer.specs.declared.visits.Visit.{Visit}
use Rattle.pair_explorer.specs.Scopes.{Scope, rep, LeadsByRep}
use Rattle.pair_explorer.specs.Visits.{seen, has, Along, AreEarlier}

-- The breaks of visit number n, each with that number. The types of a triple are not compared where its old node is marked at its
-- way.
unfoldable pub visit_breaks : Task → ℕ → Visit → List (ℕ × Broken)
visit_breaks t n v = if is_marked t v.old v.way then [] else map (λ b. (n, b)) (breaks_of t (seen v))

abbrev pub some_breaks : Task → ℕ → Option Visit → List (ℕ × Broken)
some_breaks t n None = []
some_breaks t n (Some v) = visit_breaks t n v

-- the breaks of the first visits, in their order
unfoldable pub breaks_below : Task → List Visit → ℕ → List (ℕ × Broken)
breaks_below t visits n = flat_map (λ i. some_breaks t i (slice_get visits i)) (range_with_len 0 n)

-- whether the types of a visit are compared: they are where its old node is unmarked at its way
abbrev pub is_compared : Task → Visit → Bool
is_compared t v = not (is_marked t v.old v.way)

-- how many of the visits are compared
abbrev pub compared_count : Task → List Visit → ℕ
compared_count t visits = count_by (is_compared t) visits

-- the number of possible triples of representatives: each class of one graph with each of the other, at two ways
abbrev pub most_triples : Scope → ℕ
most_triples s = 2 * (class_count s.old * class_count s.new)

pub record IsExploration (s : Scope) (visits : List Visit) (broken : List (ℕ × Broken)) : Type 0 where
  -- the representatives of each root are visited
  pub roots : (k : ℕ) (root : PlainRoot) → slice_get s.task.roots k ≡ Some root → has visits (rep s (root_triple root)) ≡ true
  -- and so are those of each triple to which a step leads from a visited one
  pub partners : (n i : ℕ) (v : Visit) (y : Triple) → slice_get visits n ≡ Some v → step s.task (seen v) i ≡ Some y → has visits (rep s y) ≡ true
  -- the parents of each visit spell a path over representatives that leads to it
  pub reached : (n : ℕ) (v : Visit) → slice_get visits n ≡ Some v → (path : Path) × Along visits n path × LeadsByRep s path (seen v)
  -- and no other path over representatives that leads to it comes before that one
  pub first : (n : ℕ) (v : Visit) (path other : Path) → slice_get visits n ≡ Some v → Along visits n path → LeadsByRep s other (seen v) → IsNotAfter path other
  -- the visits stand in order of these paths
  pub ascending : (m n : ℕ) (path later : Path) → m < n → Along visits m path → Along visits n later → IsBefore path later
  -- what led to a triple stands before it
  pub earlier : AreEarlier visits
  -- no triple stands twice
  pub once : (m n : ℕ) (u v : Visit) → slice_get visits m ≡ Some u → slice_get visits n ≡ Some v → seen u ≡ seen v → m ≡ n
  -- each visit is of representatives
  pub represented : (n : ℕ) (v : Visit) → slice_get visits n ≡ Some v → rep s (seen v) ≡ seen v
  -- the nodes of each visit are in the graphs
  pub inside : (n : ℕ) (v : Visit) → slice_get visits n ≡ Some v → (v.old < length s.task.old) × (v.new < length s.task.new)
  -- the breaks are exactly those of the unmarked triples, in order of the visits and then in the order of the rules
  pub breaks : broken ≡ breaks_below s.task visits (length visits)
