use Rattle.elf.proofs.symbols_lemmas.FirstSoname.{first_soname, missing}
use Rattle.elf.proofs.symbols.laws.the_soname_is_the_first_before_the_end.Goals as goal

pub returns-clause-found : goal.returns-clause-found
returns-clause-found c = first_soname

pub returns-clause-missing : goal.returns-clause-missing
returns-clause-missing c = missing
