use Rattle.std.proofs.Common.{rules, ◌∙◌, ℕ, List, [], ◌∷◌, ap, inl, inr}
use Rattle.explain.proofs.notes.on_uncomposed.Goals as goal

pub returns-in_default-name_of-clause-tells : goal.returns-in_default-name_of-clause-tells
returns-in_default-name_of-clause-tells c = inl (c.in-Some.path.now, search rules, inr (search rules, search rules))

pub returns-in_default-name_of-3-clause-tells : goal.returns-in_default-name_of-3-clause-tells
returns-in_default-name_of-3-clause-tells c =
    inl (c.in-Some.path.now, search rules, inl (c.in-Some-name_of.second.now, search rules, inl (c.in-Some-name_of-2.first.now, search rules, inr (search rules, search rules))))

pub returns-clause-tells : goal.returns-clause-tells
returns-clause-tells c =
    let note = c.in_ok-notes.ensures ∙ ap (λ (text : List ℕ). text ∷ []) c.in_ok-note.ensures.says in
    inl (c.in-Some.path.now, search rules, inl (c.in-Some-name_of.second.now, search rules, inl (c.in-Some-name_of-2.first.now, search rules, inl (c.in-Some-name_of-3.last.now, search rules, note))))
