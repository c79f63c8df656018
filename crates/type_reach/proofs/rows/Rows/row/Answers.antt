use Rattle.std.proofs.Common.{◌<◌, ◌-◌, ◌∷◌, get_or, length, take, drop, sym, ap, ◌∙◌, arith, inl, inr, Some, slice_get}
use Rattle.std.proofs.lemmas.List.{get_or_read}
use Rattle.type_reach.proofs.RowLemmas.{rows-count, row-at, begins-before, ends-inside}
use Rattle.type_reach.proofs.rows.Rows.row.Goals as goal

pub begin-from-requires : goal.begin-from-requires
begin-from-requires g c = omega (arith, c.requires, c.as_slice.ensures.len, ap length c.self.view_is, rows-count c.self.inside.items.items 0 c.self.inside.ends.items)

pub index-to-requires : goal.index-to-requires
index-to-requires g c = omega (arith, c.requires, ap length c.self.view_is, rows-count c.self.inside.items.items 0 c.self.inside.ends.items)

pub unreachable-requires : goal.unreachable-requires
unreachable-requires g c =
    let items = c.self.inside.items.items in
    let ends = c.self.inside.ends.items in
    let lt : c.args.number < length ends = omega (arith, c.requires, ap length c.self.view_is, rows-count items 0 ends) in
    let from = c.begin-from.ensures ∙ ap (λ xs. get_or (0 ∷ xs) c.args.number 0) c.as_slice.ensures.value in
    let to = get_or_read ends c.args.number c.index-to.result.now lt c.index-to.ensures 0 in
    let order = begins-before 0 ends (length items) c.args.number c.self.invariant lt in
    let inside = ends-inside 0 ends (length items) c.args.number c.self.invariant lt in
    elim c.in-None.ensures.lookup.0 [ inl past ↦ omega (arith, past, from, to, order) | inr past ↦ omega (arith, past, to, inside, ap length c.deref.ensures.value) ]

pub returns : goal.returns
returns g c =
    let items = c.self.inside.items.items in
    let ends = c.self.inside.ends.items in
    let lt : c.args.number < length ends = omega (arith, c.requires, ap length c.self.view_is, rows-count items 0 ends) in
    let from = c.begin-from.ensures ∙ ap (λ xs. get_or (0 ∷ xs) c.args.number 0) c.as_slice.ensures.value in
    let to = get_or_read ends c.args.number c.index-to.result.now lt c.index-to.ensures 0 in
    ap (λ rows. slice_get rows c.args.number) (sym c.self.view_is)
    ∙ row-at items 0 ends c.args.number lt
    ∙ sym (ap (λ x. Some x) (c.in-Some.ensures.lookup.0.2
    ∙ ap (λ xs. take (c.index-to.result.now - c.begin-from.result) (drop c.begin-from.result xs)) c.deref.ensures.value
    ∙ ap (λ n. take (n - c.begin-from.result) (drop c.begin-from.result items)) to
    ∙ ap (λ n. take (get_or ends c.args.number 0 - n) (drop n items)) from))
