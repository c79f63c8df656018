use Rattle.std.proofs.Common.{append_assoc, rules}
use Rattle.std.proofs.lemmas.Result.{IfOk-equal}
use Rattle.trial_libraries.specs.Symbols.{symbol}
use Rattle.trial_libraries.proofs.symbols.put_symbol.Goals as goal

pub returns : goal.returns
unfolding symbol
returns c = search (rules, IfOk-equal, append_assoc)
