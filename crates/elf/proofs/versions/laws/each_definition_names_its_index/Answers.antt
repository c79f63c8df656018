use Rattle.elf.proofs.versions_lemmas.VersionLaws.{inside, named, apart, found}
use Rattle.elf.proofs.versions.laws.each_definition_names_its_index.Goals as goal

pub returns-clause-inside : goal.returns-clause-inside
returns-clause-inside c = inside

pub returns-clause-named : goal.returns-clause-named
returns-clause-named c = named

pub returns-clause-apart : goal.returns-clause-apart
returns-clause-apart c = apart

pub returns-clause-found : goal.returns-clause-found
returns-clause-found c = found
