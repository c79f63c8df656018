use Rattle.elf_needs.proofs.NeedLaws.{kept, past, unversioned}
use Rattle.elf_needs.proofs.laws.each_symbol_has_its_index.Goals as goal

pub returns-clause-kept : goal.returns-clause-kept
returns-clause-kept c = kept

pub returns-clause-past : goal.returns-clause-past
returns-clause-past c = past

pub returns-clause-unversioned : goal.returns-clause-unversioned
returns-clause-unversioned c = unversioned
