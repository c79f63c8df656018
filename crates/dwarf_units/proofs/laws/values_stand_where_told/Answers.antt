use Rattle.dwarf_units.proofs.ToldLemmas.{units_of_info, units_told}
use Rattle.dwarf_units.proofs.laws.values_stand_where_told.Goals as goal

pub returns-clause-info : goal.returns-clause-info
returns-clause-info c = λ info abbrevs. units_of_info info abbrevs (c.pairs_stand_where_told.ensures abbrevs)

pub returns-clause-told : goal.returns-clause-told
returns-clause-told c = λ info abbrevs. units_told c.reading_moves_on_inside_the_unit.ensures.after info abbrevs (c.pairs_stand_where_told.ensures abbrevs)
