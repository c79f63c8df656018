-- The words for kinds of symbols.
use Rattle.std.specs.Prelude.{ℕ, List, codes}
use Rattle.abi_types.specs.declared.export.SymbolKind.{SymbolKind}
use Rattle.abi_types.specs.declared.export.SymbolKind.TheVariants.{NoType, Object, Func, Common, Tls, Ifunc}

abbrev pub kind_word : SymbolKind → List ℕ
kind_word NoType = codes "NOTYPE"
kind_word Object = codes "OBJECT"
kind_word Func = codes "FUNC"
kind_word Common = codes "COMMON"
kind_word Tls = codes "TLS"
kind_word Ifunc = codes "IFUNC"
