use Rattle.elf.proofs.file_lemmas.Faultless.{lies_inside, holds_its_size}
use Rattle.elf.proofs.file.laws.sections_lie_inside.Goals as goal

pub returns-clause-inside : goal.returns-clause-inside
returns-clause-inside c = lies_inside

pub returns-clause-whole : goal.returns-clause-whole
returns-clause-whole c = holds_its_size
