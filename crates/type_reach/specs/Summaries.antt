-- The facts that remain in memory after all types are judged.
use Rattle.std.specs.Prelude.{◌≡◌, ℕ, List, length, slice_get, Contains, Some}
use Rattle.dwarf_entries.specs.Debug.{PlainDwarf}
use Rattle.type_reach.specs.declared.facts.Facts.{Facts}
use Rattle.type_reach.specs.declared.summaries.Summary.{Summary}
use Rattle.type_reach.specs.ByValue.{IsTooDeep}
use Rattle.type_reach.specs.Facts.{facts_of}

abbrev pub summary_of : Facts → Summary
summary_of x = record { rank = x.rank; aggregate = x.aggregate; size = x.size; count = x.count; align = x.align; core = x.core }

-- the summaries of all found entries, none of which is too deep
pub record AreSummaries (d : PlainDwarf) (found : List ℕ) (summaries : List Summary) : Type 0 where
  pub count : length summaries ≡ length found
  pub each : (i e : ℕ) → slice_get found i ≡ Some e → slice_get summaries i ≡ Some (summary_of (facts_of d (Some e)))
  pub shallow : (e : ℕ) → Contains found e → IsTooDeep d.tree (Some e) → ⊥
