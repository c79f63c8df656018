use Rattle.dwarf_tree.proofs.ParentLaws.{children_are}
use Rattle.dwarf_tree.proofs.laws.children_stand_one_deeper.Goals as goal

pub returns : goal.returns
returns c = children_are
