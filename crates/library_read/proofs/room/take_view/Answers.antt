use Rattle.std.proofs.Common.{◌≡◌, ◌+◌, ◌∙◌, length, map, refl, sym, ap, arith, inl, inr}
use Rattle.std.specs.Prelude.{sum_by}
use Rattle.std.proofs.lemmas.Result.{err_from_is_err_and}
use Rattle.abi_types.specs.Parts.{plain_part}
use Rattle.abi_types.specs.Types.{PlainView}
use Rattle.type_graph.proofs.lemmas.Spending.{takes-as, takes-all, passes-at, passes-by-more}
use Rattle.library_read.specs.Limits.{part_letters, view_letters}
use Rattle.library_read.proofs.RoomLemmas.{sum-map}
use Rattle.library_read.proofs.room.take_view.Goals as goal

pub returns-in_err-take-2-clause-past : goal.returns-in_err-take-2-clause-past
returns-in_err-take-2-clause-past g c =
    let tag = ap (λ (v : PlainView). length v.tag) c.view.view_is in
    let p = err_from_is_err_and c.from_residual-in_err-take-2.result c.from_residual-in_err-take-2.ensures.1 in
    rw (p.1, p.2, c.in_err-take-2.ensures.named) (inr (refl, omega (arith, c.in_err-take-2.ensures.past, tag)))

pub returns-in_err-take-3-clause-past : goal.returns-in_err-take-3-clause-past
returns-in_err-take-3-clause-past g c =
    let items = c.as_slice-items.result.now in
    let v = c.args.view.now in
    let parts : map (plain_part g.Ix.Index.number_of) items ≡ v.parts = c.as_slice-items.ensures ∙ ap (λ (x : PlainView). x.parts) c.view.view_is in
    let all : length v.tag + sum_by (λ p. part_letters (plain_part g.Ix.Index.number_of p)) items ≡ view_letters v =
    ap (λ s. length v.tag + s) (sym (sum-map part_letters (plain_part g.Ix.Index.number_of) items) ∙ ap (sum_by part_letters) parts) in
    let p = err_from_is_err_and c.from_residual-in_err-take-3.result c.from_residual-in_err-take-3.ensures.1 in
    rw (p.1, p.2, c.in_err-take-3.ensures.named)
    (inr (passes-by-more c.args.letters.now _ (view_letters v) c.loop-part.letters.limit
    (passes-at (λ p. part_letters (plain_part g.Ix.Index.number_of p)) items c.loop-part.part-index c.part-item.result _ (length v.tag) c.args.letters.now c.loop-part.letters c.loop-part.letters.limit c.loop-part.invariant c.loop-part-test.true
    (refl, c.in_err-take-3.ensures.past) (c.letters_of.ensures ∙ ap (λ p. part_letters (plain_part g.Ix.Index.number_of p)) c.part-item.is))
    (omega (arith, all))))

pub returns-clause-letters : goal.returns-clause-letters
returns-clause-letters g c =
    let items = c.as_slice-items.result.now in
    let v = c.args.view.now in
    let parts : map (plain_part g.Ix.Index.number_of) items ≡ v.parts = c.as_slice-items.ensures ∙ ap (λ (x : PlainView). x.parts) c.view.view_is in
    let all : length v.tag + sum_by (λ p. part_letters (plain_part g.Ix.Index.number_of p)) items ≡ view_letters v =
    ap (λ s. length v.tag + s) (sym (sum-map part_letters (plain_part g.Ix.Index.number_of) items) ∙ ap (sum_by part_letters) parts) in
    takes-as c.args.letters.now c.loop-part.letters _ (view_letters v)
    (takes-all (λ p. part_letters (plain_part g.Ix.Index.number_of p)) items c.loop-part.part-index (length v.tag) c.args.letters.now c.loop-part.letters c.loop-part.invariant (omega (arith, c.loop-part-test.false))) all
