-- Entries without their attribute values.
use Rattle.std.specs.Prelude.{ℕ, List, [], Result, Ok, Err}
use Rattle.abi_base.specs.declared.fault.Fault.{Fault}
use Rattle.dwarf_forms.specs.declared.abbreviations.abbrev.Abbrev.{Abbrev}
use Rattle.dwarf_forms.specs.declared.values.Value.{Value}
use Rattle.dwarf_units.specs.declared.entry.Entry.{Entry}
use Rattle.dwarf_units.specs.Units.{PlainUnit, values_at}

-- the values that were read, or none
abbrev pub values_read : Result (List (ℕ × Value) × ℕ) Fault → List (ℕ × Value)
values_read (Ok read) = read.0
values_read (Err f) = []

-- the entry with an abbreviation, from the offset of its values
abbrev pub outlined : PlainUnit → Abbrev → ℕ → ℕ → ℕ → Entry
outlined u form offset depth values =
    record { offset = offset; depth = depth; tag = form.tag; specs_from = form.specs_from; attributes = values_read (values_at u offset form.specs values) }
