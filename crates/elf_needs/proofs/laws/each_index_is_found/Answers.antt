use Rattle.elf_needs.proofs.NeedLaws.{found}
use Rattle.elf_needs.proofs.laws.each_index_is_found.Goals as goal

pub returns : goal.returns
returns c = found
