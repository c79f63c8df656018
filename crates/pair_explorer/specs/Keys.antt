-- Triples as keys of maps and sets.
use Rattle.std.specs.Prelude.{◌≡◌, ℕ, Bool, List}
use Rattle.std.specs.BTreeSet.{BTreeSet, contains}
use Rattle.std.specs.Ordering.{bool_cmp, nat_cmp, ordering_then}
use Rattle.std.specs.declared.cmp.Ordering.{Ordering}
use Rattle.pair_rules.specs.Steps.{Triple, is_pointer}
use Rattle.pair_rules.specs.contracts.triple.TriplePartialEq.TheImpl as triples
use Rattle.pair_explorer.specs.declared.visits.Visit.{Visit}
use Rattle.pair_explorer.specs.Visits.{has}

-- whether two triples are equal, as maps of triples compare them
abbrev pub at_triple : Triple → Triple → Bool
at_triple = (triples.ghosts).eq

-- what stands for a triple in a search tree, and the order of these keys
abbrev pub Key : Type 0
Key = ℕ × ℕ × Bool

abbrev pub key_of : Triple → Key
key_of x = (x.old, x.new, is_pointer x.way)

abbrev pub key_cmp : Key → Key → Ordering
key_cmp k q = ordering_then (ordering_then (nat_cmp k.0 q.0) (nat_cmp k.1 q.1)) (bool_cmp k.2 q.2)

-- the keys are those of the triples that were visited
pub record AreKnown (known : BTreeSet Key) (visits : List Visit) : Type 0 where
  pub each : (x : Triple) → contains key_cmp known (key_of x) ≡ has visits x
