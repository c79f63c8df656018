-- Exports that differ in name or version.
use Rattle.std.specs.Prelude.{◌≡◌, ℕ, true, List, Option, Some, slice_get}
use Rattle.abi_types.specs.Exports.{PlainExport}
use Rattle.elf_bind.specs.Exports.{is_same}

-- two exports with one name and one version, or with one name and no versions, are the same export
abbrev pub AreDistinct : List PlainExport → Type 0
AreDistinct exports = (j k : ℕ) (e f : PlainExport) → slice_get exports j ≡ Some e → slice_get exports k ≡ Some f → is_same e f ≡ true → j ≡ k

abbrev pub name_and_version : PlainExport → List ℕ × Option (List ℕ)
name_and_version e = (e.name, e.version)
