use Rattle.std.proofs.Common.{◌≡◌, ◌<◌, ◌+◌, ◌∙◌, length, refl, sym, ap, arith, inl, inr}
use Rattle.std.proofs.lemmas.Result.{err_from_is_err_and}
use Rattle.abi_base.specs.declared.limit.Limit.TheVariants.{Letters, Parts}
use Rattle.abi_base.proofs.lemmas.Outcomes.{on_limit_weaker}
use Rattle.abi_types.specs.Types.{PlainView}
use Rattle.abi_types.specs.Graphs.{node_at, view_at, void_node}
use Rattle.type_graph.specs.Counts.{label_letters}
use Rattle.type_graph.proofs.lemmas.Spending.{takes-both, passes-after}
use Rattle.library_read.specs.Limits.{letters_held, parts_held, view_letters}
use Rattle.library_read.proofs.RoomLemmas.{one-passes, spent-one}
use Rattle.library_read.proofs.room.ask_room.Goals as goal

pub returns-in_err-take_view : goal.returns-in_err-take_view
returns-in_err-take_view g c =
    let nodes = c.args.graph.now in
    let k = c.loop-number.number in
    let was = c.loop-number.invariant in
    let lt : k < length nodes = omega (arith, c.loop-number-test.true, c.len-number-end.ensures) in
    let view : c.view.result.now ≡ view_at nodes k = c.view.ensures ∙ ap (view_at nodes) c.of-ix.ensures in
    let parts = ap (λ (v : PlainView). length v.parts) view in
    let letters = ap view_letters view in
    let p = err_from_is_err_and c.from_residual.result c.from_residual.ensures.1 in
    rw (p.1, p.2) (on_limit_weaker c.in_err-take_view.field-0.0 _ _
    (λ l h. elim h [
      | inl one ↦ inl (one-passes Parts c.args.bytes parts_held nodes k _ void_node c.loop-number.parts l was.parts lt one (omega (arith, parts)))
      | inr other ↦ inr (one-passes Letters c.args.bytes letters_held nodes k _ void_node c.loop-number.letters l was.letters lt other (omega (arith, letters)))
    ])
    c.in_err-take_view.ensures.past)

pub returns-in_err-take_labels : goal.returns-in_err-take_labels
returns-in_err-take_labels g c =
    let nodes = c.args.graph.now in
    let k = c.loop-number.number in
    let was = c.loop-number.invariant in
    let lt : k < length nodes = omega (arith, c.loop-number-test.true, c.len-number-end.ensures) in
    let letters = ap view_letters (c.view.ensures ∙ ap (view_at nodes) c.of-ix.ensures) in
    let labels = ap label_letters (c.labels.ensures ∙ ap (λ i. (node_at nodes i).labels) c.of-ix.ensures) in
    let p = err_from_is_err_and c.from_residual-in_err-take_labels.result c.from_residual-in_err-take_labels.ensures.1 in
    rw (p.1, p.2) (on_limit_weaker c.in_err-take_labels.field-0.0 _ _
    (λ l h. inr (one-passes Letters c.args.bytes letters_held nodes k (letters_held (node_at nodes k)) void_node c.loop-number.letters l was.letters lt
    (passes-after c.loop-number.letters c.take_view.new.letters _ _ (letters_held (node_at nodes k)) l c.in_ok-take_view.ensures.letters h (omega (arith, letters, labels))) (omega arith)))
    c.in_err-take_labels.ensures.past)

pub loop-number-preserved : goal.loop-number-preserved
loop-number-preserved g c =
    let nodes = c.args.graph.now in
    let k = c.loop-number.number in
    let was = c.loop-number.invariant in
    let lt : k < length nodes = omega (arith, c.loop-number-test.true, c.len-number-end.ensures) in
    let view : c.view.result.now ≡ view_at nodes k = c.view.ensures ∙ ap (view_at nodes) c.of-ix.ensures in
    let letters = ap view_letters view in
    let labels = ap label_letters (c.labels.ensures ∙ ap (λ i. (node_at nodes i).labels) c.of-ix.ensures) in
    record {
      parts = spent-one Parts c.args.bytes parts_held nodes k _ void_node c.loop-number.parts c.take_view.new.parts was.parts lt c.in_ok-take_view.ensures.parts (ap (λ (v : PlainView). length v.parts) view);
      letters =
          spent-one Letters c.args.bytes letters_held nodes k (letters_held (node_at nodes k)) void_node c.loop-number.letters c.take_labels.new.letters was.letters lt
          (takes-both c.loop-number.letters c.take_view.new.letters c.take_labels.new.letters _ _ (letters_held (node_at nodes k)) c.in_ok-take_view.ensures.letters c.in_ok-take_labels.ensures.letters (omega (arith, letters, labels))) refl;
    }
