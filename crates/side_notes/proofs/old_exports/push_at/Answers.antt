-- An export that a rule drops has no note.
use Rattle.std.proofs.Common.{◌≡◌, ◌∙◌, ◌++◌, List, OnOk, ap, sym, subst}
use Rattle.std.proofs.lemmas.List.{append-nil}
use Rattle.abi_types.specs.Plain.{plain_export}
use Rattle.type_notes.specs.declared.note.Note.{Note}
use Rattle.side_notes.proofs.OldExportLemmas.{compared_at, dropped_at, none_at}
use Rattle.side_notes.proofs.old_exports.push_at.Goals as goal

pub returns-then-not-is_compared : goal.returns-then-not-is_compared
returns-then-not-is_compared c =
    let r = c.args.related.now in
    sym (ap (λ (ns : List Note). c.args.notes.now ++ ns) (dropped_at c.args.marks.now.exports r.old.now.exports r.new.now.exports c.args.k c.is_compared.result c.is_compared.ensures c.if-not-is_compared.true)
    ∙ append-nil c.args.notes.now)

pub returns-in-None : goal.returns-in-None
returns-in-None c =
    let r = c.args.related.now in
    sym (ap (λ (ns : List Note). c.args.notes.now ++ ns) (none_at c.args.marks.now.exports r.old.now.exports r.new.now.exports c.args.k c.in-None.ensures) ∙ append-nil c.args.notes.now)

pub returns-in-Some : goal.returns-in-Some
returns-in-Some c =
    let r = c.args.related.now in
    subst (λ (ns : List Note). OnOk c.push_on.result (c.push_on.new.notes ≡ c.args.notes.now ++ ns))
    (compared_at c.args.marks.now.exports r.old.now.exports r.new.now.exports c.args.k (plain_export c.in-Some.export.now) c.is_compared.result c.is_compared.ensures c.if-not-is_compared.false c.in-Some.ensures)
    c.push_on.ensures
