use Rattle.dwarf_forms.proofs.FormLemmas.{fixed_ends}
use Rattle.dwarf_forms.proofs.laws.values_of_a_fixed_size_end_behind_it.Goals as goal

pub returns : goal.returns
returns c = λ form size implicit unit end entry bytes at is room inside. fixed_ends form implicit unit end entry bytes at size is room inside
