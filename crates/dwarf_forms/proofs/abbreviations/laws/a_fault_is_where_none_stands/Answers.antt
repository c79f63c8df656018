use Rattle.dwarf_forms.proofs.abbreviations_lemmas.StandingLemmas.{fault_kind, fault_follows, fault_no_end, fault_no_abbrev}
use Rattle.dwarf_forms.proofs.abbreviations.laws.a_fault_is_where_none_stands.Goals as goal

pub returns-clause-what : goal.returns-clause-what
returns-clause-what c = fault_kind

pub returns-clause-place : goal.returns-clause-place
returns-clause-place c = fault_follows

pub returns-clause-no_end : goal.returns-clause-no_end
returns-clause-no_end c = fault_no_end

pub returns-clause-no_abbrev : goal.returns-clause-no_abbrev
returns-clause-no_abbrev c = fault_no_abbrev
