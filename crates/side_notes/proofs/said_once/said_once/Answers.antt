-- Note by note.
use Rattle.std.proofs.Common.{◌∙◌, sym}
use Rattle.side_notes.proofs.SaidLemmas.{kept_new, kept_old, kept_start, said_start}
use Rattle.side_notes.proofs.said_once.said_once.Goals as goal

pub loop-note-init : goal.loop-note-init
loop-note-init c = record { kept = c.new-kept.ensures ∙ sym kept_start; said = said_start c.new-said.result c.new-said.ensures.empty }

pub loop-note-preserved-in-Continue-branch-2 : goal.loop-note-preserved-in-Continue-branch-2
loop-note-preserved-in-Continue-branch-2 c = record {
  kept = kept_new c.loop-note.yielded c.in-Some.note c.loop-note.kept c.push.new.self c.in_ok-is_new.field-0 c.loop-note.invariant.kept (c.in_ok-is_new.ensures.new c.loop-note.yielded c.loop-note.invariant.said) c.if-branch.true c.in_ok-push.ensures.ok;
  said = c.in_ok-is_new.ensures.said c.loop-note.yielded c.loop-note.invariant.said;
}

pub loop-note-preserved : goal.loop-note-preserved
loop-note-preserved c = record {
  kept = kept_old c.loop-note.yielded c.in-Some.note c.loop-note.kept c.in_ok-is_new.field-0 c.loop-note.invariant.kept (c.in_ok-is_new.ensures.new c.loop-note.yielded c.loop-note.invariant.said) c.if-branch.false;
  said = c.in_ok-is_new.ensures.said c.loop-note.yielded c.loop-note.invariant.said;
}
