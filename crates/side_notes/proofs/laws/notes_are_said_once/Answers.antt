-- One note after another.
use Rattle.side_notes.proofs.SaidLemmas.{kept_once, others_kept, said_by_kept}
use Rattle.side_notes.proofs.laws.notes_are_said_once.Goals as goal

pub returns-clause-said : goal.returns-clause-said
returns-clause-said c = λ notes note. said_by_kept note notes

pub returns-clause-once : goal.returns-clause-once
returns-clause-once c = kept_once

pub returns-clause-others : goal.returns-clause-others
returns-clause-others c = others_kept
