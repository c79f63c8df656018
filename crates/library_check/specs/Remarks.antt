-- Remarks beside the answer: how many exports were compared without types.
use Rattle.std.specs.Prelude.{ℕ, Bool, List, nat_lt, ◌==◌, ◌&&◌, count_by}
use Rattle.abi_base.specs.declared.remark.Remark.{Remark}
use Rattle.abi_base.specs.declared.remark.SizedExports.{SizedExports}
use Rattle.abi_types.specs.Exports.{PlainExport}
use Rattle.abi_types.specs.Libraries.{PlainLibrary}
use Rattle.library_read.specs.Libraries.{library_of}

-- Whether an export has a size (gABI, "Symbol Table": 0 where a symbol has none, or an unknown one).
abbrev pub has_size : PlainExport → Bool
has_size e = nat_lt 0 e.size

-- whether an export has a size, but no type in the debug information
abbrev pub has_size_alone : PlainExport → Bool
has_size_alone e = nat_lt 0 e.size && (e.entry == 0)

-- the number of exports with a size, and the number of those without a type
abbrev pub sized_exports : List PlainExport → SizedExports
sized_exports exports = record { all = count_by has_size exports; untyped = count_by has_size_alone exports }

-- the remark on two libraries
abbrev pub remark_of : PlainLibrary → PlainLibrary → Remark
remark_of old new = record { old = sized_exports old.exports; new = sized_exports new.exports }

-- the remark on the libraries in two files
abbrev pub remark_on : List ℕ → List ℕ → Remark
remark_on old new = remark_of (library_of old) (library_of new)
