-- The notes on the sections so far.
use Rattle.std.proofs.Common.{◌≡◌, ◌++◌, map, take}
use Rattle.std.specs.Borrow.{Bor}
use Rattle.suppression_text.specs.Rules.{PlainSection}
use Rattle.side_notes.specs.Idle.{idle_note}
use Rattle.side_notes.proofs.idle.push_each.Given as goal

abbrev pub invariant-loop-section : goal.invariant-loop-section
invariant-loop-section l = l.notes ≡ l.fn.notes ++ map (λ (section : Bor PlainSection). idle_note section.now) (take l.section-index l.sections)
