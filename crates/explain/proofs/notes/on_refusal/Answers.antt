use Rattle.std.proofs.Common.{rules, ◌∙◌, ℕ, List, [], ◌∷◌, ap, inl, inr}
use Rattle.explain.proofs.notes.on_refusal.Goals as goal

pub returns-in_default-name_of-clause-tells : goal.returns-in_default-name_of-clause-tells
returns-in_default-name_of-clause-tells c = inl (c.in-Some.certificate.now, search rules, inr (search rules, search rules))

pub returns-clause-tells : goal.returns-clause-tells
returns-clause-tells c =
    let note = c.in_ok-notes.ensures ∙ ap (λ (text : List ℕ). text ∷ []) c.in_ok-note.ensures.says in
    inl (c.in-Some.certificate.now, search rules, inl (c.in-Some-name_of.old.now, search rules, inl (c.in-Some-name_of-2.new.now, search rules, note)))
