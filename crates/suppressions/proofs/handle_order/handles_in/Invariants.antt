use Rattle.std.proofs.Common.{◌≡◌, take}
use Rattle.suppressions.specs.Handles.{handles_of}
use Rattle.suppressions.specs.PlainHandles.{plain_handles}
use Rattle.suppressions.proofs.handle_order.handles_in.Given as goal

-- the handles are those of the sections so far
abbrev pub invariant-loop-section : goal.invariant-loop-section
invariant-loop-section l = plain_handles l.handles.items ≡ handles_of (take l.section-index l.sections)
