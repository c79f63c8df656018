use Rattle.std.proofs.Common.{vec_len}
use Rattle.report.proofs.Telling.{TellsOn}
use Rattle.report.proofs.listener.tell_all.Given as goal

abbrev pub invariant-loop-waiting : goal.invariant-loop-waiting
invariant-loop-waiting g l =
    TellsOn (λ b. (goal.Listener-dyn g (b.vtable, b.value)).heard b.value) (λ b. (goal.Listener-dyn g (b.vtable, b.value)).voice b.value) l.fn.listeners.items l.rows l.fn.out.items l.waiting.items l.out.items

abbrev pub decreases-loop-waiting : goal.decreases-loop-waiting
decreases-loop-waiting g l = vec_len l.waiting
