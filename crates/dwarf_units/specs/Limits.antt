-- What the limits on units count, by the bytes of the sections.
use Rattle.std.specs.Prelude.{◌≡◌, ◌<◌, ◌≤◌, ℕ, ◌+◌, ◌-◌, List, length, All, Contains, Option, Some, None, Result, Ok, Err}
use Rattle.std.specs.List.{sum_by}
use Rattle.abi_base.specs.declared.fault.Fault.{Fault}
use Rattle.abi_base.specs.declared.fault.Refusal.{Refusal}
use Rattle.abi_base.specs.declared.limit.Limit.{Limit}
use Rattle.abi_base.specs.declared.limit.Limit.TheVariants as limit
use Rattle.abi_base.specs.Budgets.{BudgetState, allowed, with_taken}
use Rattle.abi_base.specs.Runs.{Run}
use Rattle.dwarf_forms.specs.abbreviations.Abbrevs.{table_run}
use Rattle.dwarf_forms.specs.abbreviations.LeastBytes.{least_bytes_of}
use Rattle.dwarf_units.specs.declared.entry.Entry.{Entry}
use Rattle.dwarf_units.specs.Units.{PlainUnit, entries_of}
use Rattle.dwarf_units.specs.Sequence.{unit_of, unit_step, units_of}

-- ---- attributes

abbrev pub attribute_cost : Entry → ℕ
attribute_cost e = length e.attributes

-- the attributes of the entries of a unit, up to its first fault
abbrev pub attributes_count : PlainUnit → ℕ
attributes_count u = sum_by attribute_cost (entries_of u).items

abbrev pub attributes_allowed : PlainUnit → ℕ
attributes_allowed u = allowed limit.Attributes (u.end - u.offset)

-- ---- abbreviation tables

-- the bytes that the table of a unit has at least
abbrev pub table_cost : PlainUnit → ℕ
table_cost u = least_bytes_of u.table

-- The bytes of the tables of all units. A table counts once for each unit that has it.
abbrev pub tables_count : List ℕ → List ℕ → ℕ
tables_count info abbrevs = sum_by table_cost (units_of info abbrevs).items

abbrev pub tables_allowed : List ℕ → ℕ
tables_allowed abbrevs = allowed limit.Abbreviations (length abbrevs)

-- ---- a section

-- the limit that is passed where units and their entries are read
abbrev pub UnitsPass : List ℕ → List ℕ → Limit → Type 0
UnitsPass info abbrevs limit.Abbreviations = tables_allowed abbrevs < tables_count info abbrevs
UnitsPass info abbrevs limit.Attributes = (u : PlainUnit) × Contains (units_of info abbrevs).items u × (attributes_allowed u < attributes_count u)
UnitsPass info abbrevs others = ⊥

-- no unit has more attributes than allowed
abbrev pub HaveFewAttributes : List ℕ → List ℕ → Type 0
HaveFewAttributes info abbrevs = All (λ (u : PlainUnit). attributes_count u ≤ attributes_allowed u) (units_of info abbrevs).items

-- ---- a reader and its budget

-- what remains to be read counts more than the budget has
abbrev pub PassesLeft : {X : Type 0} → (X → ℕ) → Run X (Option Fault) → BudgetState → Limit → Type 0
PassesLeft cost left budget l = (l ≡ budget.limit) × (budget.most < budget.taken + sum_by cost left.items)

-- a table without a fault counts more than the budget has
abbrev pub TablePasses : List ℕ → ℕ → BudgetState → Limit → Type 0
TablePasses abbrevs at budget l = (l ≡ budget.limit) × ((table_run abbrevs at).end ≡ None) × (budget.most < budget.taken + least_bytes_of (table_run abbrevs at).items)

-- the table of a unit does
abbrev pub UnitPasses : List ℕ → List ℕ → ℕ → BudgetState → Limit → Type 0
UnitPasses info abbrevs at budget l =
    (l ≡ budget.limit)
    × (unit_step info abbrevs at ≡ Ok (unit_of info abbrevs at, (unit_of info abbrevs at).end))
    × (budget.most < budget.taken + table_cost (unit_of info abbrevs at))

-- what the next one counts was taken
abbrev pub TakesNext : {X : Type 0} → (X → ℕ) → BudgetState → Result (Option X) Refusal → BudgetState → Type 0
TakesNext cost old (Ok (Some x)) new = (new ≡ with_taken old (cost x)) × (old.taken + cost x ≤ old.most)
TakesNext cost old (Ok None) new = new ≡ old
TakesNext cost old (Err e) new = Prim.Unit {0}

-- at most this many were taken
pub record TakesAtMost (old new : BudgetState) (n : ℕ) : Type 0 where
  pub limit : new.limit ≡ old.limit
  pub most : new.most ≡ old.most
  pub taken : new.taken ≤ old.taken + n
