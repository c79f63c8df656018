use Rattle.std.proofs.Common.{◌≡◌, take}
use Rattle.suppressions.proofs.ready_section.ready_sections.Given as goal

-- the sections so far are prepared
abbrev pub invariant-loop-section : goal.invariant-loop-section
invariant-loop-section l = l.ready.items ≡ take l.section-index l.compiled
