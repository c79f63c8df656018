-- Step by step.
use Rattle.std.proofs.Common.{◌<◌, ◌∙◌, ℕ, List, length, get_or, ap, string_bytes}
use Rattle.abi_types.specs.Graphs.{view_at}
use Rattle.abi_types.specs.Types.{PlainNode}
use Rattle.pair_compare.proofs.reports_lemmas.WalkLemmas.{IsSpelled-none, IsSpelled-more, node_there, part_there}
use Rattle.pair_compare.proofs.reports.paths.steps_text.Goals as goal

pub walk-init : goal.walk-init
walk-init c = IsSpelled-none c.args.library.now c.args.route.now.export c.args.route.now.parts _ _ c.type_of-node.ensures c.new-text.ensures.bytes

pub view-view-requires : goal.view-view-requires
view-view-requires c =
    let lt : c.walk.k < length c.args.route.now.parts = rw c.as_slice-parts.ensures at c.walk-test.true in
    rw c.graph-graph.ensures (node_there c.args.library.now c.args.route.now.export c.args.route.now.parts c.walk.k c.walk.node (string_bytes c.walk.text) c.walk.invariant c.requires lt)

pub push_one-requires : goal.push_one-requires
push_one-requires c =
    let lt : c.walk.k < length c.args.route.now.parts = rw c.as_slice-parts.ensures at c.walk-test.true in
    rw (c.view-view.ensures, c.graph-graph.ensures, c.as_slice-parts.ensures) (part_there c.args.library.now c.args.route.now.export c.args.route.now.parts c.walk.k c.walk.node (string_bytes c.walk.text) c.walk.invariant c.requires lt)

pub next_node-node-requires : goal.next_node-node-requires
next_node-node-requires c =
    let lt : c.walk.k < length c.args.route.now.parts = rw c.as_slice-parts.ensures at c.walk-test.true in
    rw (c.view-view.ensures, c.graph-graph.ensures, c.as_slice-parts.ensures) (part_there c.args.library.now c.args.route.now.export c.args.route.now.parts c.walk.k c.walk.node (string_bytes c.walk.text) c.walk.invariant c.requires lt)

pub walk-preserved : goal.walk-preserved
walk-preserved c =
    let lt : c.walk.k < length c.args.route.now.parts = rw c.as_slice-parts.ensures at c.walk-test.true in
    IsSpelled-more c.args.library.now c.args.route.now.export c.args.route.now.parts c.walk.k c.walk.node (string_bytes c.walk.text) c.walk.invariant c.next_node-node.result (get_or c.as_slice-parts.result.now c.walk.k 0) (string_bytes c.push_one.new.text)
    c.view-view.result.now lt (ap (λ (ps : List ℕ). get_or ps c.walk.k 0) c.as_slice-parts.ensures) (c.view-view.ensures ∙ ap (λ (g : List PlainNode). view_at g c.walk.node) c.graph-graph.ensures) c.next_node-node.ensures c.in_ok-push_one.ensures
