use Rattle.dwarf_units.proofs.UnitPlaces.{unit_stands}
use Rattle.dwarf_units.proofs.UnitsLeft.{units_chain}
use Rattle.dwarf_units.proofs.laws.units_stand_one_after_another.Goals as goal

pub returns-clause-chain : goal.returns-clause-chain
returns-clause-chain c = units_chain

pub returns-clause-inside : goal.returns-clause-inside
returns-clause-inside c = unit_stands
