-- The invariants of debug information that was read.
use Rattle.std.specs.Prelude.{◌≡◌, None}
use Rattle.dwarf_entries.specs.Debug.{PlainDwarf, dwarf_of}
use Rattle.dwarf_entries.specs.Pass.{dwarf_fault}
use Rattle.dwarf_entries.specs.Places.{Places, HoldEntries}

-- It is that of its sections, which have no fault, and its map has the first entry at each address.
pub record IsWhole (typed : Places) (d : PlainDwarf) : Type 0 where
  pub addresses : HoldEntries typed d
  pub faultless : dwarf_fault d.sections ≡ None
  pub read : d ≡ dwarf_of d.sections
