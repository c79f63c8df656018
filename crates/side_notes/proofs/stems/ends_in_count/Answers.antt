-- The last of the first bytes says whether they end in a digit or an underscore.
use Rattle.std.proofs.Common.{sym, ◌∙◌, arith}
use Rattle.side_notes.proofs.StemLemmas.{counted, done, done_none}
use Rattle.side_notes.proofs.stems.ends_in_count.Goals as goal

pub returns-then-left-eq0-clause-done : goal.returns-then-left-eq0-clause-done
returns-then-left-eq0-clause-done c = λ e. done_none c.args.name.now c.args.left c.if-left-eq0.true

pub returns-clause-counted : goal.returns-clause-counted
returns-clause-counted c = λ e. counted c.args.name.now c.args.left 0 (omega (arith, c.if-left-eq0.false)) c.requires (sym c.is_counting.ensures ∙ e)

pub returns-clause-done : goal.returns-clause-done
returns-clause-done c = λ e. done c.args.name.now c.args.left 0 (omega (arith, c.if-left-eq0.false)) c.requires (sym c.is_counting.ensures ∙ e)
