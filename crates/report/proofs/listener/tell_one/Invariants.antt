use Rattle.std.proofs.Common.{◌≡◌, take}
use Rattle.report.proofs.Telling.{IsStillHearing}
use Rattle.report.proofs.listener.tell_one.Given as goal

abbrev pub invariant-loop-row : goal.invariant-loop-row
invariant-loop-row g l =
    let before = goal.Listener-dyn g (l.fn.listener.vtable, l.fn.listener.value) in
    let now = goal.Listener-dyn g (l.listener.vtable, l.listener.value) in
    (now.heard l.listener.value ≡ take l.row-index l.rows) × (now.voice l.listener.value ≡ before.voice l.fn.listener.value) × IsStillHearing (now.voice l.listener.value).style l.row-index
