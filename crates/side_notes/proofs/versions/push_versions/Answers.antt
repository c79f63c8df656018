-- The versions of the new library, without those of the old one.
use Rattle.std.proofs.Common.{◌≡◌, ◌++◌, List, OnOk, ap, subst, ◌∙◌}
use Rattle.type_notes.specs.declared.note.Note.{Note}
use Rattle.side_notes.specs.Versions.{versions_of}
use Rattle.side_notes.proofs.VersionLemmas.{notes_each}
use Rattle.side_notes.proofs.versions.push_versions.Goals as goal

pub returns : goal.returns
returns c =
    let P : List Note → Type 0 = λ ns. OnOk c.push_each.result (c.push_each.new.notes ≡ ns) in
    let same = notes_each c.args.old.now.exports c.args.new.now.exports c.in_ok-known.known c.as_slice.result.now
    (c.in_ok-known.ensures ∙ ap versions_of c.exports.ensures) (c.as_slice.ensures ∙ c.in_ok-versions.ensures ∙ ap versions_of c.exports-2.ensures) in
    subst P (ap (λ (ns : List Note). c.args.notes.now ++ ns) same) c.push_each.ensures
