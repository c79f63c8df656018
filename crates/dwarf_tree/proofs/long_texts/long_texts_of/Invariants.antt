use Rattle.std.proofs.Common.{◌-◌, length}
use Rattle.std.specs.Prelude.{All}
use Rattle.dwarf_tree.specs.LongTexts.{IsLongText}
use Rattle.dwarf_tree.proofs.long_texts.long_texts_of.Given as goal

abbrev pub invariant-texts : goal.invariant-texts
invariant-texts l = All (IsLongText l.info) l.texts.items

abbrev pub decreases-texts : goal.decreases-texts
decreases-texts l = length l.info - l.at
