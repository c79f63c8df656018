-- Relations that are closed under the rules, and the compatibility of two libraries' types.
use Rattle.std.specs.Prelude.{◌≡◌, ℕ, Bool, true, false, [], Some, slice_get}
use Rattle.pair_rules.specs.Steps.{PlainRoot, Task, Triple, is_marked, breaks_of, step}
use Rattle.pair_rules.specs.Paths.{root_triple}

-- Each triple in the relation whose old node is not marked for its way breaks no rule, and all triples to which it leads are in
-- the relation too.
pub record IsClosed (t : Task) (r : Triple → Bool) : Type 0 where
  pub keeps : (x : Triple) → r x ≡ true → is_marked t x.old x.way ≡ false → breaks_of t x ≡ []
  pub leads_on : (x y : Triple) (i : ℕ) → r x ≡ true → step t x i ≡ Some y → r y ≡ true

-- the relation contains the types of all compared exports, reached by value
abbrev pub HoldsRoots : Task → (Triple → Bool) → Type 0
HoldsRoots t r = (k : ℕ) (root : PlainRoot) → slice_get t.roots k ≡ Some root → r (root_triple root) ≡ true

-- some closed relation contains them
abbrev pub AreCompatible : Task → Type 0
AreCompatible t = (r : Triple → Bool) × IsClosed t r × HoldsRoots t r
