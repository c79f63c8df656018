use Rattle.std.proofs.Common.{◌≡◌}
use Rattle.std.specs.Prelude.{find, ◌==◌}
use Rattle.std.specs.Option.{option_map}
use Rattle.elf.specs.file.Elf.{section, section_view, section_of_kind}
use Rattle.abi_base.proofs.lemmas.Places.{places}
use Rattle.elf.proofs.file.file.ElfFile.section_of_kind.Given as goal

abbrev pub invariant-loop-number : goal.invariant-loop-number
invariant-loop-number l =
    option_map (section_view l.self) (find (λ i. (section l.self i).kind == l.kind) (places l.number l.number-end)) ≡ section_of_kind l.self l.kind
