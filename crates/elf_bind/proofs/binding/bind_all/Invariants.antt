use Rattle.std.proofs.Common.{◌≡◌, take}
use Rattle.abi_types.specs.Plain.{plain_exports}
use Rattle.elf_bind.specs.Binding.{bind_each}
use Rattle.elf_bind.specs.Named.{AreAnswers}
use Rattle.elf_bind.proofs.binding.bind_all.Given as goal

abbrev pub invariant-loop-export : goal.invariant-loop-export
invariant-loop-export l = record {
  places : l.places ≡ bind_each (take l.export-index (plain_exports l.wanted)) (plain_exports l.offered);
  known : AreAnswers l.answers (plain_exports l.offered);
}
