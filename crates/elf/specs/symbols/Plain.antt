-- A symbol of the code, without the address of its name in memory.
use Rattle.std.specs.Prelude.{List, map}
use Rattle.elf.specs.declared.symbols.symbol.Symbol.{Symbol}
use Rattle.elf.specs.symbols.Symbols.{PlainSymbol}

abbrev pub plain_symbol : Symbol → PlainSymbol
plain_symbol s = record { number = s.number; name = s.name.now; binding = s.binding; kind = s.kind; visibility = s.visibility; section = s.section; value = s.value; size = s.size }

abbrev pub plain_symbols : List Symbol → List PlainSymbol
plain_symbols symbols = map plain_symbol symbols
