-- The three kinds.
use Rattle.std.proofs.Common.{List, ◌++◌, ◌∙◌, ap, map}
use Rattle.std.specs.Prelude.{codes}
use Rattle.new_needs.specs.declared.kept.Needed.{Needed}
use Rattle.new_needs.specs.Plain.{plain_all, plain_needs}
use Rattle.type_notes.specs.declared.note.NoteKind.TheVariants.{NeedsLibrary, NeedsVersion, NeedsSymbol}
use Rattle.side_notes.specs.Needs.{need_note}
use Rattle.side_notes.proofs.NeedLemmas.{three_kinds}
use Rattle.side_notes.proofs.needs.push_notes.Goals as goal

pub returns : goal.returns
returns c =
    three_kinds c.args.notes.now c.push_each.new.notes c.push_each-2.new.notes c.push_each-3.new.notes (plain_needs c.args.needs.now)
    (c.in_ok-push_each.ensures ∙ ap (λ (l : List Needed). c.args.notes.now ++ map (need_note NeedsLibrary (codes " of ")) (plain_all l)) c.deref.ensures.value)
    (c.in_ok-push_each-2.ensures ∙ ap (λ (l : List Needed). c.push_each.new.notes ++ map (need_note NeedsVersion (codes " of ")) (plain_all l)) c.deref-2.ensures.value)
    (c.in_ok-push_each-3.ensures ∙ ap (λ (l : List Needed). c.push_each-2.new.notes ++ map (need_note NeedsSymbol (codes "@")) (plain_all l)) c.deref-3.ensures.value)
