-- The answers of the reader of entries.
use Rattle.std.specs.Prelude.{◌≡◌, ◌≤◌, ◌||◌, Bool, Option, Some, None, Result, Ok, Err}
use Rattle.abi_base.specs.declared.fault.Refusal.{Refusal}
use Rattle.abi_base.specs.declared.fault.Fault.{Fault}
use Rattle.abi_base.specs.declared.fault.NoMemory.TheVariants.{Allocation}
use Rattle.abi_base.specs.declared.fault.Refusal.TheVariants as refusal
use Rattle.abi_base.specs.Runs.{Run, ended, put_front}
use Rattle.dwarf_units.specs.declared.entry.Entry.{Entry}
use Rattle.dwarf_units.specs.declared.reader.Following.{Following}
use Rattle.dwarf_units.specs.Units.{PlainUnit, State, entries_left, is_type_entry}

-- the entry is the first of the remaining ones, and the rest begins at the offset after it
pub record IsNext (u : PlainUnit) (s : State) (met : Bool) (f : Following) : Type 0 where
  pub few : f.lists ≤ f.at
  pub left : entries_left u s met ≡ put_front f.entry (entries_left u (f.at, Some f.lists) (met || is_type_entry u f.entry))

-- what the reader of the next entry answers
abbrev pub ComesTo : PlainUnit → State → Bool → Result (Option Following) Refusal → Type 0
ComesTo u s met (Ok (Some f)) = IsNext u s met f
ComesTo u s met (Ok None) = entries_left u s met ≡ ended None
ComesTo u s met (Err (refusal.Fault f)) = entries_left u s met ≡ ended (Some f)
ComesTo u s met (Err (refusal.NoMemory cause)) = cause ≡ Allocation

-- what the reader of the first remaining entry answers
abbrev pub FirstIs : Run Entry (Option Fault) → Result (Option Entry) Refusal → Type 0
FirstIs left (Ok (Some e)) = (others : Run Entry (Option Fault)) × (left ≡ put_front e others)
FirstIs left (Ok None) = left ≡ ended None
FirstIs left (Err (refusal.Fault f)) = left ≡ ended (Some f)
FirstIs left (Err (refusal.NoMemory cause)) = cause ≡ Allocation
