use Rattle.std.proofs.Common.{◌≡◌, map}
use Rattle.abi_base.specs.Outcome.{first}
use Rattle.elf.specs.file.Elf.{all_sections, compressed_fault}
use Rattle.abi_base.proofs.lemmas.Outcomes.{first_from}
use Rattle.elf.proofs.file.places.compressed_fault_in.Given as goal

abbrev pub invariant-loop-number : goal.invariant-loop-number
invariant-loop-number l =
    first_from (compressed_fault l.bytes) l.number l.sections.count ≡ first (map (compressed_fault l.bytes) (all_sections l.bytes))
