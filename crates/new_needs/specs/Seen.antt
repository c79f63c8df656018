-- What was seen, in a search tree: no choice of names makes a look-up long.
use Rattle.std.specs.Prelude.{◌≡◌, ℕ, Bool, List}
use Rattle.std.specs.Borrow.{Bor}
use Rattle.std.specs.BTreeSet.{BTreeSet, contains_by}
use Rattle.std.specs.Cmp.Lexicographic.{slice_cmp}
use Rattle.std.specs.List.{list_any}
use Rattle.std.specs.Ordering.{nat_cmp, ordering_then}
use Rattle.std.specs.declared.cmp.Ordering.{Ordering}
use Rattle.new_needs.specs.Lacking.{is_named}
use Rattle.new_needs.specs.Needed.{PlainNeeded}

-- the order of two names with what they are of: by the names, and where these are equal by the latter
abbrev pub names_cmp : List ℕ → List ℕ → List ℕ → List ℕ → Ordering
names_cmp name of other_name other_of = ordering_then (slice_cmp nat_cmp name other_name) (slice_cmp nat_cmp of other_of)

abbrev pub SeenSet : Type 0
SeenSet = BTreeSet (Bor (List ℕ) × Bor (List ℕ))

-- a name with what it is of is in a set
abbrev pub has_seen : SeenSet → List ℕ → List ℕ → Bool
has_seen set name of = contains_by (λ k. names_cmp name of k.0.now k.1.now) set

-- the set has exactly these
pub record AreSeen (those : List PlainNeeded) (set : SeenSet) : Type 0 where
  pub each : (name of : List ℕ) → has_seen set name of ≡ list_any (is_named name of) those
