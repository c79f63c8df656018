use Rattle.std.proofs.Common.{◌≡◌, ◌∷◌, [], ◌∙◌, length, Some, None, refl, sym, ap, arith, inl, inr, rules}
use Rattle.std.proofs.lemmas.List.{length-map}
use Rattle.std.proofs.lemmas.Result.{err_from_is_err_and}
use Rattle.abi_types.specs.Plain.{plain_label}
use Rattle.abi_base.specs.declared.limit.Limit.TheVariants.{Letters, TypeNames}
use Rattle.abi_base.proofs.lemmas.Budgets.{on_none}
use Rattle.abi_base.proofs.lemmas.Lists.{contains_at}
use Rattle.abi_base.proofs.lemmas.Outcomes.{on_limit_weaker}
use Rattle.abi_types.specs.Types.{PlainNode}
use Rattle.type_graph.specs.Counts.{type_letters, names_held}
use Rattle.type_graph.specs.Sharing.{first_node}
use Rattle.type_graph.proofs.NodeCounts.{void-passes, node-passes, nodes-within}
use Rattle.type_graph.proofs.NodeLemmas.{node-more, nodes-end}
use Rattle.type_graph.proofs.lemmas.Spending.{takes-none, takes-it, sound-fresh, passes-fresh, spent-push}
use Rattle.type_graph.proofs.nodes.first_nodes.Goals as goal

pub returns-in_err-node-clause-past : goal.returns-in_err-node-clause-past
returns-in_err-node-clause-past g c =
    let d = c.args.types.now.dwarf.now in
    let found = c.args.types.now.found.now in
    let p = err_from_is_err_and c.from_residual-in_err-node.result c.from_residual-in_err-node.ensures.1 in
    rw (p.1, p.2) (on_limit_weaker c.in_err-node.field-0.0 _ _
    (λ l h. inl (void-passes d found type_letters (λ r. refl) Letters c.args.bytes l (passes-fresh Letters c.args.bytes c.of-letters.result _ l c.of-letters.ensures h)))
    c.in_err-node.ensures.past)

pub found-init : goal.found-init
found-init g c =
    let d = c.args.types.now.dwarf.now in
    let found = c.args.types.now.found.now in
    let void = first_node d found None in
    let one : c.push.new.self ≡ void ∷ [] = search rules in
    let none : 0 ≡ names_held void = sym (ap length (c.laws_of_types.ensures d).labels_void) in
    record {
      nodes = one;
      letters = spent-push Letters c.args.bytes type_letters [] c.push.new.self void _ c.of-letters.result c.node.new.letters (on_none Letters c.args.bytes type_letters c.of-letters.result c.of-letters.ensures) one c.in_ok-node.ensures.letters refl;
      names =
          spent-push TypeNames (length found) names_held [] c.push.new.self void 0 c.of-names.result c.of-names.result (on_none TypeNames (length found) names_held c.of-names.result (search rules)) one
          (takes-none c.of-names.result (sound-fresh TypeNames (length found) c.of-names.result (search rules))) none;
    }

pub node-requires-in-found-clause-there : goal.node-requires-in-found-clause-there
node-requires-in-found-clause-there g c = contains_at c.args.types.now.found.now c.found.number c.at-e.result c.at-e.ensures

pub returns-in_err-made-clause-past : goal.returns-in_err-made-clause-past
returns-in_err-made-clause-past g c =
    let d = c.args.types.now.dwarf.now in
    let found = c.args.types.now.found.now in
    let was = c.found.invariant in
    let p = err_from_is_err_and c.from_residual-in_err-made.result c.from_residual-in_err-made.ensures.1 in
    rw (p.1, p.2) (on_limit_weaker c.in_err-made.field-0.0 _ _
    (λ l h. inl (node-passes d found type_letters (λ r. refl) Letters c.args.bytes c.found.nodes c.found.number c.at-e.result _ c.found.letters l was.letters was.nodes c.at-e.ensures h refl))
    c.in_err-made.ensures.past)

pub returns-in_err-take-clause-past : goal.returns-in_err-take-clause-past
returns-in_err-take-clause-past g c =
    let d = c.args.types.now.dwarf.now in
    let found = c.args.types.now.found.now in
    let was = c.found.invariant in
    let p = err_from_is_err_and c.from_residual-in_err-take.result c.from_residual-in_err-take.ensures.1 in
    rw (p.1, p.2, c.in_err-take.ensures.named)
    (inr (node-passes d found names_held (λ r. refl) TypeNames (length found) c.found.nodes c.found.number c.at-e.result _ c.found.names c.found.names.limit was.names was.nodes c.at-e.ensures (refl, c.in_err-take.ensures.past) (ap length c.as_slice.ensures ∙ sym (length-map c.made.inside.labels plain_label) ∙ ap names_held c.made.view_is ∙ ap names_held c.in_ok-made.ensures.node)))

pub found-preserved : goal.found-preserved
found-preserved g c =
    let d = c.args.types.now.dwarf.now in
    let found = c.args.types.now.found.now in
    let was = c.found.invariant in
    record {
      nodes = node-more d found c.found.nodes c.push-in-found.new.self c.found.number c.at-e.result _ was.nodes c.at-e.ensures c.in_ok-made.ensures.node c.in_ok-push-2.ensures.ok;
      letters = spent-push Letters c.args.bytes type_letters c.found.nodes c.push-in-found.new.self _ _ c.found.letters c.node-in-found.new.letters was.letters c.in_ok-push-2.ensures.ok c.in_ok-made.ensures.letters (ap type_letters (sym c.in_ok-made.ensures.node));
      names = spent-push TypeNames (length found) names_held c.found.nodes c.push-in-found.new.self _ _ c.found.names c.take.new.self was.names c.in_ok-push-2.ensures.ok (takes-it c.found.names c.take.new.self _ _ c.in_ok-take.ensures.taken c.in_ok-take.ensures.within refl) (ap length c.as_slice.ensures ∙ sym (length-map c.made.inside.labels plain_label) ∙ ap names_held c.made.view_is);
    }

pub returns-clause-nodes : goal.returns-clause-nodes
returns-clause-nodes g c = nodes-end c.args.types.now.dwarf.now c.args.types.now.found.now c.found.nodes c.found.number c.found.invariant.nodes (omega (arith, c.found-test.false, c.len-number-end.ensures))

pub returns-clause-letters : goal.returns-clause-letters
returns-clause-letters g c =
    let d = c.args.types.now.dwarf.now in
    let found = c.args.types.now.found.now in
    let was = c.found.invariant in
    nodes-within d found type_letters (λ r. refl) Letters c.args.bytes c.found.nodes c.found.letters was.letters (nodes-end d found c.found.nodes c.found.number was.nodes (omega (arith, c.found-test.false, c.len-number-end.ensures)))

pub returns-clause-names : goal.returns-clause-names
returns-clause-names g c =
    let d = c.args.types.now.dwarf.now in
    let found = c.args.types.now.found.now in
    let was = c.found.invariant in
    nodes-within d found names_held (λ r. refl) TypeNames (length found) c.found.nodes c.found.names was.names (nodes-end d found c.found.nodes c.found.number was.nodes (omega (arith, c.found-test.false, c.len-number-end.ensures)))
