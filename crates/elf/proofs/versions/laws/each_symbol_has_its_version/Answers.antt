use Rattle.elf.proofs.versions_lemmas.VersionLaws.{kept, unversioned}
use Rattle.elf.proofs.versions.laws.each_symbol_has_its_version.Goals as goal

pub returns-clause-kept : goal.returns-clause-kept
returns-clause-kept c = kept

pub returns-clause-unversioned : goal.returns-clause-unversioned
returns-clause-unversioned c = unversioned
