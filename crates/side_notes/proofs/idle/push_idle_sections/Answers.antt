-- The notes on the sections that hold of nothing.
use Rattle.std.proofs.Common.{◌≡◌, ◌++◌, List, OnOk, ap, map, subst, ◌∙◌}
use Rattle.type_notes.specs.declared.note.Note.{Note}
use Rattle.side_notes.proofs.IdleLemmas.{notes_on, section_at}
use Rattle.side_notes.proofs.idle.push_idle_sections.Goals as goal

pub returns : goal.returns
returns c =
    let P : List Note → Type 0 = λ ns. OnOk c.push_each.result (c.push_each.new.notes ≡ ns) in
    let same = notes_on c.args.rules.now c.args.old.now c.as_slice.result.now (ap (map section_at) c.as_slice.ensures ∙ c.in_ok-idle.ensures.is) in
    subst P (ap (λ (ns : List Note). c.args.notes.now ++ ns) same) c.push_each.ensures
