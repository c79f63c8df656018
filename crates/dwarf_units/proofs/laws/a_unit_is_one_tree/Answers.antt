use Rattle.dwarf_units.proofs.TreeLaw.{one_tree}
use Rattle.dwarf_units.proofs.laws.a_unit_is_one_tree.Goals as goal

pub returns : goal.returns
returns c = one_tree c.reading_moves_on_inside_the_unit.ensures.after
