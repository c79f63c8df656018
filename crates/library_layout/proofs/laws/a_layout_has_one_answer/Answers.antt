use Rattle.std.proofs.Common.{◌≡◌, ℕ, List, refl, subst}
use Rattle.abi_types.specs.Graphs.{IsGraph}
use Rattle.library_read.specs.Libraries.{graph_of, library_of}
use Rattle.library_layout.proofs.LayoutLemmas.{one_text, text_or_none}
use Rattle.library_layout.proofs.laws.a_layout_has_one_answer.Goals as goal

same_graph : (f : List ℕ) → graph_of f ≡ (library_of f).graph
unfolding library_of
same_graph f = refl

pub returns-clause-text : goal.returns-clause-text
returns-clause-text c library tag text other short readable one two =
    let graph = subst IsGraph (same_graph library) (c.nodes_stand_for_what_exports_reach.ensures.graph library short readable) in
    one_text c.rows_are_determined.ensures (library_of library).graph tag text other graph one two

pub returns-clause-tag : goal.returns-clause-tag
returns-clause-tag c library tag text laid none = text_or_none (library_of library).graph tag text laid none
