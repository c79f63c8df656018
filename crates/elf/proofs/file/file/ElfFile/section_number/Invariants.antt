use Rattle.std.proofs.Common.{◌≡◌}
use Rattle.std.specs.Prelude.{find}
use Rattle.elf.specs.file.Elf.{has_name, section_number}
use Rattle.abi_base.proofs.lemmas.Places.{places}
use Rattle.elf.proofs.file.file.ElfFile.section_number.Given as goal

abbrev pub invariant-loop-number : goal.invariant-loop-number
invariant-loop-number l =
    find (has_name l.self l.name) (places l.number l.number-end) ≡ section_number l.self l.name
