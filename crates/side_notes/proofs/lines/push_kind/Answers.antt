-- The first notes, and then how many more there are.
use Rattle.std.proofs.Common.{◌≡◌, ◌++◌, ℕ, List, OnOk, ap, subst, ◌∙◌}
use Rattle.std.proofs.lemmas.List.{append_assoc}
use Rattle.side_notes.specs.NoteTexts.{first_lines, rest_line}
use Rattle.side_notes.proofs.lines.push_kind.Goals as goal

pub returns-clause-ok : goal.returns-clause-ok
returns-clause-ok c =
    let old = c.args.text.now.items in
    let front = first_lines c.args.kind c.args.notes.now in
    let P : List ℕ → Type 0 = λ t. OnOk c.push_rest.result (c.push_rest.new.text.items ≡ t) in
    subst P (ap (λ (t : List ℕ). t ++ rest_line c.args.kind c.count_of.result) c.in_ok-push_first.ensures.ok ∙ ap (λ n. (old ++ front) ++ rest_line c.args.kind n) c.count_of.ensures ∙ append_assoc old front _) c.push_rest.ensures.ok
