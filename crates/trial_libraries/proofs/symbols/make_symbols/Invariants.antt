use Rattle.std.proofs.Common.{◌≡◌}
use Rattle.trial_libraries.specs.Bytes.{string_table}
use Rattle.trial_libraries.specs.Symbols.{function_names, symbol_table}
use Rattle.trial_libraries.proofs.symbols.make_symbols.Given as goal

abbrev pub invariant-loop-number : goal.invariant-loop-number
invariant-loop-number l = (l.symbols.items ≡ symbol_table l.number) × (l.names.items ≡ string_table (function_names l.number))
