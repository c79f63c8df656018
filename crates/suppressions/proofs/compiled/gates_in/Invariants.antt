use Rattle.std.proofs.Common.{◌≡◌, map, take}
use Rattle.suppressions.specs.Handles.{gates_of}
use Rattle.suppressions.proofs.compiled.gates_in.Given as goal

-- the patterns of the sections so far
abbrev pub invariant-loop-section : goal.invariant-loop-section
invariant-loop-section l = map (λ text. text.now) l.texts.items ≡ gates_of (take l.section-index l.sections)
