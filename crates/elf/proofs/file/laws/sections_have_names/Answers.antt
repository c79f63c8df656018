use Rattle.elf.proofs.file_lemmas.Faultless.{has_a_name, is_not_compressed}
use Rattle.elf.proofs.file.laws.sections_have_names.Goals as goal

pub returns-clause-named : goal.returns-clause-named
returns-clause-named c = has_a_name

pub returns-clause-plain : goal.returns-clause-plain
returns-clause-plain c = is_not_compressed
