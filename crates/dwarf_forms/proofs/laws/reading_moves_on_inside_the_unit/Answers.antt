use Rattle.dwarf_forms.proofs.lemmas.Values.{value_moves}
use Rattle.dwarf_forms.proofs.laws.reading_moves_on_inside_the_unit.Goals as goal

pub returns-clause-after : goal.returns-clause-after
returns-clause-after c = λ form implicit unit end entry bytes at read h. (value_moves form implicit unit end entry bytes at read h).after

pub returns-clause-inside : goal.returns-clause-inside
returns-clause-inside c = λ form implicit unit end entry bytes at read h. (value_moves form implicit unit end entry bytes at read h).inside
