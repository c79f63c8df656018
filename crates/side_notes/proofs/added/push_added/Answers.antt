-- The notes on the exports of the library.
use Rattle.std.proofs.Common.{◌≡◌, ◌++◌, List, OnOk, ap, subst}
use Rattle.type_notes.specs.declared.note.Note.{Note}
use Rattle.side_notes.proofs.AddedLemmas.{added_each}
use Rattle.side_notes.proofs.added.push_added.Goals as goal

pub returns : goal.returns
returns c =
    let P : List Note → Type 0 = λ ns. OnOk c.push_each.result (c.push_each.new.notes ≡ ns) in
    subst P (ap (λ (ns : List Note). c.args.notes.now ++ ns) (added_each c.args.old.now.exports c.exports.result.now c.args.new.now.exports c.exports.ensures)) c.push_each.ensures
