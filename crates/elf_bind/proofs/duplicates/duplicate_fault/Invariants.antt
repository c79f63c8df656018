use Rattle.elf_bind.proofs.Standing.{Unlike}
use Rattle.elf_bind.proofs.duplicates.duplicate_fault.Given as goal

abbrev pub invariant-loop-export : goal.invariant-loop-export
invariant-loop-export l = Unlike l.exports l.export-index l.unversioned l.versioned
