use Rattle.std.proofs.Common.{sym, ap}
use Rattle.abi_types.specs.Types.{PlainView}
use Rattle.abi_types.specs.Graphs.{node_at}
use Rattle.cert_check.specs.Accepted.{class_in}
use Rattle.cert_check.proofs.LookLemmas.{AreLaws, other_heads, other_parts, last_calls, iff_moved}
use Rattle.cert_check.proofs.same_looks.look_alike.Goals as goal

pub returns-then-not-same_heads : goal.returns-then-not-same_heads
returns-then-not-same_heads g c =
    let laws : AreLaws = record { kinds = c.the_same_are_equal.ensures.kinds; groups = c.the_same_are_equal.ensures.groups; places = c.the_same_are_equal.ensures.places } in
    other_heads laws (class_in c.args.graph.now c.args.lines.now) (node_at c.args.graph.now (g.Ix.Index.number_of c.args.one)) (node_at c.args.graph.now (g.Ix.Index.number_of c.args.other)) c.view-one.result.now c.view-other.result.now c.view-one.ensures c.view-other.ensures (sym c.if-not-same_heads.ensures)

pub returns-then-not-same_parts : goal.returns-then-not-same_parts
returns-then-not-same_parts g c =
    let laws : AreLaws = record { kinds = c.the_same_are_equal.ensures.kinds; groups = c.the_same_are_equal.ensures.groups; places = c.the_same_are_equal.ensures.places } in
    other_parts laws (class_in c.args.graph.now c.args.lines.now) (node_at c.args.graph.now (g.Ix.Index.number_of c.args.one)) (node_at c.args.graph.now (g.Ix.Index.number_of c.args.other)) c.view-one.result.now c.view-other.result.now c.view-one.ensures c.view-other.ensures c.same_parts.result c.same_parts.ensures c.if-not-same_parts.true

pub returns : goal.returns
returns g c =
    let laws : AreLaws = record { kinds = c.the_same_are_equal.ensures.kinds; groups = c.the_same_are_equal.ensures.groups; places = c.the_same_are_equal.ensures.places } in
    last_calls laws (class_in c.args.graph.now c.args.lines.now) (node_at c.args.graph.now (g.Ix.Index.number_of c.args.one)) (node_at c.args.graph.now (g.Ix.Index.number_of c.args.other)) c.view-one.result.now c.view-other.result.now c.view-one.ensures c.view-other.ensures
    c.same_labels.result c.same_parts.result c.same_call.result _ _ c.labels.ensures c.labels-2.ensures c.same_labels.ensures c.if-not-same_labels.false (sym c.if-not-same_heads.ensures) c.same_parts.ensures c.if-not-same_parts.false
    (iff_moved c.same_call.result _ _ _ _ (ap (λ (v : PlainView). v.call) c.one.view_is) (ap (λ (v : PlainView). v.call) c.other.view_is) c.same_call.ensures)
