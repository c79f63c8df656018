use Rattle.elf.specs.symbols.Symbols.{symbols_of, symbol_table, symbol_strings}
use Rattle.elf.proofs.symbols_lemmas.Numbered.{numbered_in, whole, named}
use Rattle.elf.proofs.symbols.laws.symbols_fill_their_table.Goals as goal

pub returns-clause-numbered : goal.returns-clause-numbered
unfolding symbols_of
returns-clause-numbered c = λ f. numbered_in (symbol_table f) (symbol_strings f)

pub returns-clause-whole : goal.returns-clause-whole
returns-clause-whole c = whole

pub returns-clause-named : goal.returns-clause-named
returns-clause-named c = named
