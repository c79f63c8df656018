-- What has no fault is a graph.
use Rattle.std.proofs.Common.{◌<◌, ℕ, length, sym, subst}
use Rattle.std.specs.Prelude.{Contains}
use Rattle.std.proofs.lemmas.List.Elements.{All-contains}
use Rattle.abi_types.specs.Graphs.{IsGraph}
use Rattle.type_graph.proofs.graph.raw_graph.Goals as goal

pub of_nodes-requires : goal.of_nodes-requires
of_nodes-requires g c =
    let d = c.args.dwarf.now in
    let roots = c.args.roots.now in
    let inside : (e : ℕ) → Contains roots e → e < length d.tree.entries = λ e h. All-contains (λ (x : ℕ). x < length d.tree.entries) roots e c.requires.roots h in
    subst IsGraph (sym c.in-Ok.ensures.nodes) (c.the_nodes_are_a_graph.ensures d roots inside c.in-Ok.ensures.judged c.known.ensures.ordered)
