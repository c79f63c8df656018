use Rattle.std.proofs.Common.{ap, length, rules, arith}
use Rattle.trial_libraries.proofs.SymbolSteps.{length-names-le, names_more, symbols_more, no_names, no_symbols}
use Rattle.trial_libraries.proofs.symbols.make_symbols.Goals as goal

pub overflow_cast-as_slice : goal.overflow_cast-as_slice
overflow_cast-as_slice c = omega (arith, length-names-le c.loop-number.number (omega arith), ap length c.loop-number.invariant.1)

pub loop-number-init : goal.loop-number-init
loop-number-init c = search (rules, no_names, no_symbols)

pub loop-number-preserved : goal.loop-number-preserved
loop-number-preserved c = search (rules, names_more, symbols_more)
