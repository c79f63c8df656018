-- Keys, each once, in the order of their first insertion.
use Rattle.std.specs.Prelude.{◌≡◌, Bool, List}
use Rattle.std.specs.BTreeSet.{BTreeSet, contains}
use Rattle.std.specs.List.{list_any}
use Rattle.std.specs.Ordering.{is_eq}
use Rattle.std.specs.declared.cmp.Ordering.{Ordering}

-- whether two keys are the same in an order
abbrev pub same_by : {K : Type 0} → (K → K → Ordering) → K → K → Bool
same_by cmp one other = is_eq (cmp one other)

-- a search tree has exactly the keys of a list
pub record AreKeys {K : Type 0} (cmp : K → K → Ordering) (known : BTreeSet K) (keys : List K) : Type 0 where
  pub each : (key : K) → contains cmp known key ≡ list_any (same_by cmp key) keys
