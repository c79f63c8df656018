use Rattle.dwarf_units.proofs.TokenLaws.{entries_among, token_stands, tokens_chain}
use Rattle.dwarf_units.proofs.laws.tokens_stand_one_after_another.Goals as goal

pub returns-clause-chain : goal.returns-clause-chain
returns-clause-chain c = tokens_chain c.reading_moves_on_inside_the_unit.ensures.after

pub returns-clause-there : goal.returns-clause-there
returns-clause-there c = token_stands c.reading_moves_on_inside_the_unit.ensures.after

pub returns-clause-entries : goal.returns-clause-entries
returns-clause-entries c = entries_among
