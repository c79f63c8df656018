use Rattle.std.proofs.Common.{◌≡◌, map, drop}
use Rattle.abi_base.specs.Outcome.{first}
use Rattle.suppression_text.specs.Faults.{section_fault}
use Rattle.suppression_text.proofs.section.fault_of_sections.Given as goal

-- no section so far is wrong as a whole
abbrev pub invariant-loop-section : goal.invariant-loop-section
invariant-loop-section l = first (map section_fault (drop l.section-index l.sections)) ≡ first (map section_fault l.sections)
