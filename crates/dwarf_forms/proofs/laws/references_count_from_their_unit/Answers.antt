use Rattle.dwarf_forms.proofs.FormLemmas.{refers_absolute, refers1, refers2, refers4, refers8, refers_by_uleb}
use Rattle.dwarf_forms.proofs.laws.references_count_from_their_unit.Goals as goal

pub returns-clause-ref_addr : goal.returns-clause-ref_addr
returns-clause-ref_addr c = refers_absolute

pub returns-clause-ref1 : goal.returns-clause-ref1
returns-clause-ref1 c = refers1

pub returns-clause-ref2 : goal.returns-clause-ref2
returns-clause-ref2 c = refers2

pub returns-clause-ref4 : goal.returns-clause-ref4
returns-clause-ref4 c = refers4

pub returns-clause-ref8 : goal.returns-clause-ref8
returns-clause-ref8 c = refers8

pub returns-clause-ref_udata : goal.returns-clause-ref_udata
returns-clause-ref_udata c = refers_by_uleb
