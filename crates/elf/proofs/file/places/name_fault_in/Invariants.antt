use Rattle.std.proofs.Common.{◌≡◌, map}
use Rattle.abi_base.specs.Outcome.{first}
use Rattle.elf.specs.file.Elf.{all_sections, name_fault}
use Rattle.abi_base.proofs.lemmas.Outcomes.{first_from}
use Rattle.elf.proofs.file.places.name_fault_in.Given as goal

abbrev pub invariant-loop-number : goal.invariant-loop-number
invariant-loop-number l =
    first_from (name_fault l.bytes) l.number l.sections.count ≡ first (map (name_fault l.bytes) (all_sections l.bytes))
