use Rattle.dwarf_units.proofs.HeaderLaws.{fault_of_units, whole_units}
use Rattle.dwarf_units.proofs.laws.a_header_has_its_first_row.Goals as goal

pub returns-clause-fault : goal.returns-clause-fault
returns-clause-fault c = fault_of_units

pub returns-clause-none : goal.returns-clause-none
returns-clause-none c = whole_units
