-- The version indexes of a file's dynamic symbols, without the hidden bit. Without a section of indexes each symbol has
-- the index of global symbols without a version.
use Rattle.std.specs.Prelude.{ℕ, ◌%◌, List, map}
use Rattle.std.specs.List.{range_with_len}
use Rattle.abi_base.specs.GnuVersions.{versym_hidden}
use Rattle.elf.specs.versions.Versions.{version_index}

-- the version index of a symbol
abbrev pub symbol_index : List ℕ → ℕ → ℕ
symbol_index f i = version_index f i % versym_hidden

-- the indexes of this many symbols, by number
abbrev pub indexes_of : List ℕ → ℕ → List ℕ
indexes_of f symbols = map (symbol_index f) (range_with_len 0 symbols)
