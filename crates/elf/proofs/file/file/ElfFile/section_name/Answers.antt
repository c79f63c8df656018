use Rattle.elf.proofs.file_lemmas.Faultless.{no_name_outside}
use Rattle.elf.proofs.file.file.ElfFile.section_name.Goals as goal

pub returns-clause-outside : goal.returns-clause-outside
returns-clause-outside c = rw (← c.self.view_is, ← c.from-number.ensures) (no_name_outside c.self.inside.bytes.now _ c.name_in.result c.self.invariant.no_fault c.name_in.ensures)
