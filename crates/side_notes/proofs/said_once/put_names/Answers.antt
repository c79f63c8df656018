-- The names of the note are in the set, or come to it.
use Rattle.std.proofs.Common.{◌∙◌}
use Rattle.side_notes.proofs.SaidLemmas.{new_named, said_named}
use Rattle.side_notes.proofs.said_once.put_names.Goals as goal

pub returns-clause-new : goal.returns-clause-new
returns-clause-new c = λ notes are.
    new_named c.args.said.now notes c.args.note.now c.in_ok-was.was' c.in_ok-is.is' c.in_ok-new.new c.requires (c.in_ok-was.ensures.items ∙ c.as_slice.ensures) (c.in_ok-is.ensures.items ∙ c.as_slice-2.ensures) c.in_ok-new.ensures.added are

pub returns-clause-said : goal.returns-clause-said
returns-clause-said c = λ notes are.
    said_named c.args.said.now c.insert.new.self notes c.args.note.now c.in_ok-was.was'.items c.in_ok-is.is'.items c.requires (c.in_ok-was.ensures.items ∙ c.as_slice.ensures) (c.in_ok-is.ensures.items ∙ c.as_slice-2.ensures) (λ w i. c.in_ok-new.ensures.updates.0 (w, i)) are
