use Rattle.dwarf_units.proofs.RowLaws.{unit_fault_is, unit_whole_is}
use Rattle.dwarf_units.proofs.laws.a_fault_is_the_first_row_of_its_place.Goals as goal

pub returns-clause-fault : goal.returns-clause-fault
returns-clause-fault c = unit_fault_is c.reading_moves_on_inside_the_unit.ensures.after

pub returns-clause-none : goal.returns-clause-none
returns-clause-none c = unit_whole_is c.reading_moves_on_inside_the_unit.ensures.after
