use Rattle.std.proofs.Common.{[], ◌∷◌, ◌++◌, length, sym, ap, subst, ◌∙◌, arith}
use Rattle.type_reach.specs.Rows.{rows_from, EndInOrder}
use Rattle.type_reach.proofs.RowLemmas.{order-push, rows-push}
use Rattle.type_reach.proofs.rows.Rows.push.Goals as goal

pub invariant_of-self-in-Ok : goal.invariant_of-self-in-Ok
invariant_of-self-in-Ok g c =
    let items = c.self.inside.items.items in
    let ends = c.self.inside.ends.items in
    let order = order-push 0 ends (length items) c.len.result c.self.invariant (omega (arith, c.len.ensures, c.in_ok-extend_from_slice.ensures.len)) in
    subst (λ xs. EndInOrder 0 xs (length c.extend_from_slice.new.self.items)) (sym c.in-Ok.ensures.items)
    (subst (EndInOrder 0 (ends ++ c.len.result ∷ [])) (omega (arith, c.len.ensures)) order)

pub returns-in-Ok-clause-row : goal.returns-in-Ok-clause-row
returns-in-Ok-clause-row g c =
    let items = c.self.inside.items.items in
    let ends = c.self.inside.ends.items in
    let row = c.args.row.now in
    ap (λ xs. rows_from xs 0 c.push.new.self.items) c.in_ok-extend_from_slice.ensures.items
    ∙ ap (rows_from (items ++ row) 0) c.in-Ok.ensures.items
    ∙ rows-push items row 0 ends c.len.result c.self.invariant (omega (arith, c.len.ensures, c.in_ok-extend_from_slice.ensures.len))
    ∙ ap (λ rows. rows ++ row ∷ []) c.self.view_is
