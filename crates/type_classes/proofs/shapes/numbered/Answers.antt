-- One node more.
use Rattle.std.proofs.Common.{◌≡◌, ℕ, length, map, ap, ◌∙◌, arith}
use Rattle.abi_types.specs.Plain.{plain_label}
use Rattle.abi_types.specs.Graphs.{node_at, view_at}
use Rattle.type_classes.proofs.NumberLemmas.{IsNumbering-start, IsNumbering-more, IsNumbering-all}
use Rattle.type_classes.proofs.shapes.numbered.Goals as goal

pub nodes-init : goal.nodes-init
nodes-init g c = IsNumbering-start c.args.graph.now c.new-numbers.result c.in_ok-pairs.pairs.items c.new-numbers.ensures.empty c.in_ok-pairs.ensures.items

pub nodes-preserved : goal.nodes-preserved
nodes-preserved g c =
    let told = c.in_ok-number.ensures in
    IsNumbering-more c.args.graph.now c.nodes.node c.in_ok-number.number c.nodes.numbers c.number_of.new.numbers c.nodes.pairs.items c.push.new.self.items c.spell.new.into (map plain_label c.labels.result.now) c.view.result.now c.nodes.invariant c.in_ok-spell.ensures.spelled
    (c.labels.ensures ∙ ap (λ (q : ℕ). (node_at c.args.graph.now q).labels) c.of-ix.ensures) (c.view.ensures ∙ ap (view_at c.args.graph.now) c.of-ix.ensures) told.number told.kept told.fresh c.in_ok-push.ensures.items

pub returns-clause-numbered : goal.returns-clause-numbered
returns-clause-numbered g c =
    let all : c.nodes.node ≡ length c.args.graph.now = omega arith in
    IsNumbering-all (record { kinds = c.the_same_are_equal.ensures.kinds; groups = c.the_same_are_equal.ensures.groups }) c.args.graph.now c.nodes.node c.nodes.numbers c.nodes.pairs all c.nodes.invariant
