use Rattle.dwarf_units.proofs.PartialLaw.{roots_say}
use Rattle.dwarf_units.proofs.laws.a_root_says_whether_a_unit_is_partial.Goals as goal

pub returns : goal.returns
returns c = roots_say
