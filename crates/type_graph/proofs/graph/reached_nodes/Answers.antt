-- The faults come row by row.
use Rattle.std.proofs.Common.{◌<◌, ℕ, List, Some, None, map, length, ◌∙◌, ap, subst, arith}
use Rattle.std.specs.Prelude.{Contains}
use Rattle.std.proofs.lemmas.List.Elements.{All-contains}
use Rattle.abi_base.specs.Outcome.{first}
use Rattle.type_reach.specs.Faults.{shape_fault, depth_fault, types_fault}
use Rattle.type_graph.specs.Limits.{KeepTypeLimits}
use Rattle.type_graph.specs.Nodes.{made_nodes}
use Rattle.type_graph.proofs.JudgeLemmas.{sizes-hold, by-shape, by-depth, by-size, refuses-too}
use Rattle.type_graph.proofs.graph.reached_nodes.Goals as goal

pub returns-in-Err-clause-judged : goal.returns-in-Err-clause-judged
returns-in-Err-clause-judged g c =
    let d = c.args.dwarf.now in
    let roots = c.args.roots.now in
    let found = c.in_ok-found.found in
    refuses-too c.in-Err.refused (first (map (shape_fault d) found)) (types_fault d roots) (by-shape d roots found c.in_ok-found.ensures.list) c.in-Err.ensures.judged

pub returns-in-Err-learn_all-clause-judged : goal.returns-in-Err-learn_all-clause-judged
returns-in-Err-learn_all-clause-judged g c =
    let d = c.args.dwarf.now in
    let roots = c.args.roots.now in
    let found = c.in_ok-found.found in
    let inside : (e : ℕ) → Contains roots e → e < length d.tree.entries = λ e h. All-contains (λ (x : ℕ). x < length d.tree.entries) roots e c.requires.roots h in
    refuses-too c.in-Err-learn_all.refused (depth_fault d.tree roots) (types_fault d roots) (λ f some. by-depth d roots found c.in_ok-found.ensures.list f c.in-Ok.ensures.judged some) (c.in-Err-learn_all.ensures.judged roots inside c.in_ok-found.ensures.walk)

pub returns-in-Err-ask_sizes-clause-judged : goal.returns-in-Err-ask_sizes-clause-judged
returns-in-Err-ask_sizes-clause-judged g c =
    let d = c.args.dwarf.now in
    let roots = c.args.roots.now in
    let inside : (e : ℕ) → Contains roots e → e < length d.tree.entries = λ e h. All-contains (λ (x : ℕ). x < length d.tree.entries) roots e c.requires.roots h in
    by-size d roots c.in_ok-found.found c.in_ok-found.ensures.list (Some c.in-Err-ask_sizes.fault) c.in-Ok.ensures.judged (c.in-Ok-learn_all.ensures.judged roots inside c.in_ok-found.ensures.walk) c.in-Err-ask_sizes.ensures

pub nodes-requires-clause-fits : goal.nodes-requires-clause-fits
nodes-requires-clause-fits g c = sizes-hold c.args.dwarf.now c.in_ok-found.found c.in-Ok-ask_sizes.ensures

pub returns-clause-judged : goal.returns-clause-judged
returns-clause-judged g c =
    let d = c.args.dwarf.now in
    let roots = c.args.roots.now in
    let inside : (e : ℕ) → Contains roots e → e < length d.tree.entries = λ e h. All-contains (λ (x : ℕ). x < length d.tree.entries) roots e c.requires.roots h in
    by-size d roots c.in_ok-found.found c.in_ok-found.ensures.list None c.in-Ok.ensures.judged (c.in-Ok-learn_all.ensures.judged roots inside c.in_ok-found.ensures.walk) c.in-Ok-ask_sizes.ensures

pub returns-clause-nodes : goal.returns-clause-nodes
returns-clause-nodes g c = c.in_ok-nodes.ensures.nodes ∙ ap (made_nodes c.args.dwarf.now) c.in_ok-found.ensures.list

pub returns-clause-within : goal.returns-clause-within
returns-clause-within g c =
    subst (λ (found : List ℕ). KeepTypeLimits c.args.dwarf.now found c.args.bytes) c.in_ok-found.ensures.list (record {
      types = omega (arith, c.in_ok-ask_types.ensures.within, c.len.ensures);
      references = c.in_ok-leads.ensures.within;
      members = c.in_ok-ask_parts.ensures.members;
      parts = c.in_ok-ask_parts.ensures.parts;
      enumerators = c.in_ok-ask_enumerators.ensures.parts;
      enumerator_letters = c.in_ok-ask_enumerators.ensures.letters;
      member_letters = c.in_ok-ask_parts.ensures.letters;
      type_letters = c.in_ok-nodes.ensures.letters;
      names = c.in_ok-nodes.ensures.names;
    })
