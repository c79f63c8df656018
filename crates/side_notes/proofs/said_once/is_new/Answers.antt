-- A note of another kind has no names.
use Rattle.std.proofs.Common.{◌∙◌, sym}
use Rattle.side_notes.proofs.SaidLemmas.{new_free, said_free}
use Rattle.side_notes.proofs.said_once.is_new.Goals as goal

pub returns-clause-new : goal.returns-clause-new
returns-clause-new c = λ notes are. new_free notes c.args.note.now (sym c.eq.ensures ∙ c.if-eq.false)

pub returns-clause-said : goal.returns-clause-said
returns-clause-said c = λ notes are. said_free c.args.said.now notes c.args.note.now (sym c.eq.ensures ∙ c.if-eq.false) are
