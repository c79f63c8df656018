use Rattle.dwarf_entries.proofs.FirstLemmas.{signed_first}
use Rattle.dwarf_entries.proofs.laws.the_first_unit_has_a_signature.Goals as goal

pub returns : goal.returns
returns c = signed_first c.units_stand_one_after_another.ensures.chain c.units_stand_one_after_another.ensures.inside
