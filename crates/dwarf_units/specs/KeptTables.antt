-- The answers of the reader of units, and the tables that it stores.
use Rattle.std.specs.Prelude.{◌≡◌, ℕ, List, Option, Some, None, Result, Ok, Err, IfSome, nat_eq}
use Rattle.std.specs.HashMap.{HashMap, get}
use Rattle.std.specs.declared.rc.Rc.{Rc}
use Rattle.abi_base.specs.declared.fault.Fault.{Fault}
use Rattle.abi_base.specs.declared.fault.Refusal.{Refusal}
use Rattle.abi_base.specs.declared.fault.Refusal.TheVariants as refusal
use Rattle.abi_base.specs.Runs.{Run, ended, put_front}
use Rattle.dwarf_forms.specs.declared.abbreviations.abbrev.Abbrev.{Abbrev}
use Rattle.dwarf_forms.specs.abbreviations.Abbrevs.{table_run}
use Rattle.dwarf_units.specs.declared.table.Tables.{Tables}
use Rattle.dwarf_units.specs.declared.unit.Unit.{Unit}
use Rattle.dwarf_units.specs.Plain.{plain_unit}
use Rattle.dwarf_units.specs.Sequence.{unit_step}

-- an answer as in `NextIs`, for items that contracts see through a view
abbrev pub NextIsBy : {T X : Type 0} → (T → X) → Run X (Option Fault) → Result (Option T) Refusal → Run X (Option Fault) → Type 0
NextIsBy see old (Ok (Some x)) new = old ≡ put_front (see x) new
NextIsBy see old (Ok None) new = (old ≡ ended None) × (new ≡ old)
NextIsBy see old (Err (refusal.Fault f)) new = (old ≡ ended (Some f)) × (new ≡ old)
NextIsBy see old (Err (refusal.NoMemory cause)) new = new ≡ old

-- what the reader of one unit answers, where a unit begins
abbrev pub IsUnit : List ℕ → List ℕ → ℕ → Result Unit Refusal → Type 0
IsUnit info abbrevs at (Ok u) = unit_step info abbrevs at ≡ Ok (plain_unit u, u.end)
IsUnit info abbrevs at (Err (refusal.Fault f)) = unit_step info abbrevs at ≡ Err (Some f)
IsUnit info abbrevs at (Err (refusal.NoMemory cause)) = Prim.Unit {0}

-- a table at an offset that was read without a fault
pub record IsTable (abbrevs : List ℕ) (at : ℕ) (table : List Abbrev) : Type 0 where
  pub faultless : (table_run abbrevs at).end ≡ None
  pub items : table ≡ (table_run abbrevs at).items

-- each stored table is the one at its offset
pub record AreTables {Z S : Type 0} (abbrevs : List ℕ) (kept : HashMap ℕ (Rc (List Abbrev) Z) S) : Type 0 where
  pub each : (at : ℕ) → IfSome (get nat_eq kept at) (λ t. IsTable abbrevs at t.value)

abbrev pub IsKept : List ℕ → Tables → Type 0
IsKept abbrevs tables = IfSome tables.kept (AreTables abbrevs)
