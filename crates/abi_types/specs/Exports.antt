-- Exports as plain data.
use Rattle.std.specs.Prelude.{ℕ, Bool, List, Option}
use Rattle.abi_types.specs.declared.export.SymbolKind.{SymbolKind}

-- an export without the addresses of its names in memory
pub record PlainExport : Type 0 where
  pub symbol : ℕ
  pub name : List ℕ
  pub version : Option (List ℕ)
  pub index : ℕ
  pub hidden : Bool
  pub kind : SymbolKind
  pub absolute : Bool
  pub value : ℕ
  pub size : ℕ
  pub declared : List ℕ
  pub entry : ℕ
