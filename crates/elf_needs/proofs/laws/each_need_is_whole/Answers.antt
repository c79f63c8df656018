use Rattle.elf_needs.proofs.NeedLaws.{inside, of_file, entries, named}
use Rattle.elf_needs.proofs.laws.each_need_is_whole.Goals as goal

pub returns-clause-inside : goal.returns-clause-inside
returns-clause-inside c = inside

pub returns-clause-of_file : goal.returns-clause-of_file
returns-clause-of_file c = of_file

pub returns-clause-entries : goal.returns-clause-entries
returns-clause-entries c = entries

pub returns-clause-named : goal.returns-clause-named
returns-clause-named c = named
