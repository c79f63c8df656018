-- What holds of exports that were given their types.
use Rattle.std.specs.Prelude.{◌≡◌, ◌<◌, ℕ, true, false, length, Option, Some, None}
use Rattle.abi_types.specs.Exports.{PlainExport}
use Rattle.dwarf_entries.specs.Addresses.{is_typed_at}
use Rattle.dwarf_entries.specs.Debug.{PlainDwarf}
use Rattle.dwarf_entries.specs.First.{IsFirstEntry}
use Rattle.dwarf_tree.specs.Trees.{entry_at}
use Rattle.library_read.specs.Exports.{has_address}

-- an export has the entry that stands for its address and begins before each other one that does
pub record HasFirstEntry (d : PlainDwarf) (e : PlainExport) (t : ℕ) : Type 0 where
  pub address : has_address e ≡ true
  pub first : IsFirstEntry d.tree (is_typed_at d e.value) t
  pub entry : e.entry ≡ (entry_at d.tree t).offset

-- an export has no entry: its value is no address of its own, or no entry stands for it
pub record HasNoEntry (d : PlainDwarf) (e : PlainExport) : Type 0 where
  pub none : has_address e ≡ true → (t : ℕ) → t < length d.tree.entries → is_typed_at d e.value t ≡ false
  pub entry : e.entry ≡ 0

abbrev pub HasItsEntry : PlainDwarf → PlainExport → Option ℕ → Type 0
HasItsEntry d e None = HasNoEntry d e
HasItsEntry d e (Some t) = HasFirstEntry d e t
