-- The listeners that were chosen so far.
use Rattle.std.proofs.Common.{vec_len}
use Rattle.report.proofs.styles_lemmas.Choosing.{Chooses}
use Rattle.report.proofs.styles.report_option.wanted_listeners.Given as goal

abbrev pub invariant-listeners : goal.invariant-listeners
invariant-listeners g l =
    Chooses (λ b. (goal.Listener-dyn g (b.vtable, b.value)).heard b.value) (λ b. (goal.Listener-dyn g (b.vtable, b.value)).voice b.value) l.wanted l.fn.listeners.items l.waiting.items l.kept.items

abbrev pub decreases-listeners : goal.decreases-listeners
decreases-listeners g l = vec_len l.waiting
