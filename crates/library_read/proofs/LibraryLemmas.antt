-- What was read of a file without a fault is a library.
use Rattle.std.proofs.Common.{◌≡◌, ◌<◌, ◌≤◌, ◌+◌, ℕ, zero, suc, Bool, true, false, cond, List, length, map, get_or, Option, Some, None, refl, sym, ap, ◌∙◌, arith, subst, inl, inr}
use Rattle.std.specs.Prelude.{◌==◌, find, All, Contains, IsSome}
use Rattle.std.specs.Borrow.{Bor}
use Rattle.std.specs.List.{range_with_len}
use Rattle.std.specs.Option.{option_copied}
use Rattle.std.proofs.lemmas.Bool.{both_ways, cases_lt, eq-eqb}
use Rattle.std.proofs.lemmas.List.Elements.{All-map}
use Rattle.abi_base.specs.Limits.{input_limit}
use Rattle.abi_types.specs.declared.export.Export.{Export}
use Rattle.abi_types.specs.declared.place.CallShape.{CallShape}
use Rattle.abi_types.specs.Calls.{ShapesChangeCallsAlone}
use Rattle.abi_types.specs.Exports.{PlainExport}
use Rattle.abi_types.specs.Graphs.{IsGraph, node_at, node_of, shaped}
use Rattle.abi_types.specs.Libraries.{IsLibrary, plain_library}
use Rattle.abi_types.specs.Plain.{plain_exports}
use Rattle.abi_types.specs.Types.{PlainNode}
use Rattle.dwarf_entries.specs.Debug.{PlainDwarf}
use Rattle.dwarf_tree.specs.Trees.{IsOrdered}
use Rattle.elf.specs.symbols.Dynamic.{soname_of}
use Rattle.psabi.specs.Calls.{calls_of}
use Rattle.psabi.specs.Laws.{GivenCallsHavePlaces}
use Rattle.sha2.specs.Sha256.{sha256}
use Rattle.type_reach.specs.Faults.{types_fault}
use Rattle.type_reach.specs.References.{Type_}
use Rattle.type_reach.specs.Reached.{IsMet}
use Rattle.type_reach.specs.Views.{offset_of}
use Rattle.type_graph.specs.Nodes.{AreNodesOf, nodes_of}
use Rattle.library_read.specs.Debug.{debug_of}
use Rattle.library_read.specs.Exports.{entry_for, typed, roots_among, roots_of, typed_exports_of, untyped_exports_of}
use Rattle.library_read.specs.Faults.{library_fault}
use Rattle.library_read.specs.Libraries.{graph_of, library_of, uncalled_graph_of}
use Rattle.library_read.proofs.DebugLemmas.{AreInOrder, debug-ordered}
use Rattle.library_read.proofs.FaultLemmas.{without_fault}
use Rattle.library_read.proofs.TypedLemmas.{FillTheirTable, AreNumberedByPlace, file-numbered, given-at, roots-inside}

-- ---- nodes of entries

some_step : (b : Bool) (a : ℕ) (rest : Option ℕ) → (b ≡ false → IsSome rest) → IsSome (cond b (Some a) rest)
some_step true a rest later = refl
some_step false a rest later = later refl

find-some : (p : ℕ → Bool) (a n i : ℕ) → a ≤ i → i < a + n → p i ≡ true → IsSome (find p (range_with_len a n))
find-some p a zero i from below passes = absurd (omega arith)
find-some p a (suc n) i from below passes =
    some_step (p a) a (find p (range_with_len (a + 1) n)) (λ other.
    elim (cases_lt a i) [
      | inl more ↦ find-some p (a + 1) n i (omega arith) (omega arith) passes
      | inr less ↦ let same : a ≡ i = omega arith in absurd (both_ways (p a) other (ap p same ∙ passes))
    ])

-- some node of an entry
pub node-there : (nodes : List PlainNode) (entry i : ℕ) → i < length nodes → (node_at nodes i).entry ≡ entry → IsSome (node_of nodes entry)
unfolding node_of
node-there nodes entry i inside here = find-some (λ (j : ℕ). (node_at nodes j).entry == entry) 0 (length nodes) i (omega arith) (omega arith) (eq-eqb (node_at nodes i).entry entry here)

-- what the law of shapes promises
abbrev pub ShapesChangeNothingElse : Type 0
ShapesChangeNothingElse = (nodes : List PlainNode) (calls : List CallShape) → ShapesChangeCallsAlone nodes calls

-- the type of an entry that is met has a node in the graph with its calls
met-there : ShapesChangeNothingElse → (d : PlainDwarf) (roots : List ℕ) (nodes : List PlainNode) (r : Type_) → AreNodesOf d roots nodes → IsMet d.tree roots r → IsSome (node_of (shaped nodes (calls_of nodes)) (offset_of d.tree r))
met-there shapes d roots nodes r are met =
    let is = are.all r met in
    let change = shapes nodes (calls_of nodes) in
    let entry : (node_at (shaped nodes (calls_of nodes)) is.0).entry ≡ (node_at nodes is.0).entry = ap (λ (n : PlainNode). n.entry) (change.nodes_stay is.0) in
    node-there (shaped nodes (calls_of nodes)) (offset_of d.tree r) is.0 (omega (arith, is.1.inside, change.many)) (entry ∙ is.1.entry)

-- ---- entries of exports

export_met : (d : PlainDwarf) (es : List PlainExport) (k : ℕ) (z : PlainExport) → k < length es → IsMet d.tree (roots_among d es) (entry_for d (get_or es k z))
unfolding roots_among
export_met d es k z inside = go (entry_for d (get_or es k z)) refl where
  go : (o : Option ℕ) → entry_for d (get_or es k z) ≡ o → IsMet d.tree (roots_among d es) o
  go None is = tt
  go (Some t) is = (0, given-at (entry_for d) es k z t inside is)

typed-entry : (d : PlainDwarf) (e : PlainExport) → (typed d e).entry ≡ offset_of d.tree (entry_for d e)
unfolding typed
typed-entry d e = refl

entries-there : ShapesChangeNothingElse → (d : PlainDwarf) (es : List PlainExport) (nodes : List PlainNode) → AreNodesOf d (roots_among d es) nodes
    → All (λ (e : PlainExport). IsSome (node_of (shaped nodes (calls_of nodes)) e.entry)) (map (typed d) es)
entries-there shapes d es nodes are =
    All-map (λ (e : PlainExport). IsSome (node_of (shaped nodes (calls_of nodes)) e.entry)) (typed d) es
    (λ k z inside.
    subst (λ (entry : ℕ). IsSome (node_of (shaped nodes (calls_of nodes)) entry)) (sym (typed-entry d (get_or es k z)))
    (met-there shapes d (roots_among d es) nodes (entry_for d (get_or es k z)) are (export_met d es k z inside)))

-- ---- the whole

-- what the laws of nodes promise
abbrev pub NodesStand : Type 0
NodesStand = (d : PlainDwarf) (roots : List ℕ) → ((e : ℕ) → Contains roots e → e < length d.tree.entries) → types_fault d roots ≡ None → AreNodesOf d roots (nodes_of d roots)

abbrev pub NodesAreGraph : Type 0
NodesAreGraph = (d : PlainDwarf) (roots : List ℕ) → ((e : ℕ) → Contains roots e → e < length d.tree.entries) → types_fault d roots ≡ None → IsOrdered d.tree → IsGraph (nodes_of d roots)

pub file-nodes : NodesStand → (f : List ℕ) → library_fault f ≡ None → AreNodesOf (debug_of f) (roots_of f) (uncalled_graph_of f)
file-nodes stand f none = stand (debug_of f) (roots_of f) (roots-inside (debug_of f) (untyped_exports_of f)) (without_fault f none).types

pub uncalled-graph : NodesAreGraph → AreInOrder → (f : List ℕ) → length f ≤ input_limit → library_fault f ≡ None → IsGraph (uncalled_graph_of f)
uncalled-graph graph in_order f small none =
    let faultless = without_fault f none in
    graph (debug_of f) (roots_of f) (roots-inside (debug_of f) (untyped_exports_of f)) faultless.types (debug-ordered in_order f small faultless.dwarf)

pub file-graph : NodesAreGraph → AreInOrder → ShapesChangeNothingElse → (f : List ℕ) → length f ≤ input_limit → library_fault f ≡ None → IsGraph (graph_of f)
unfolding graph_of
file-graph graph in_order shapes f small none = (shapes (uncalled_graph_of f) (calls_of (uncalled_graph_of f))).graph (uncalled-graph graph in_order f small none)

-- ---- the parts that are read

pub typed-are : (f file : List ℕ) (before after : List PlainExport) → file ≡ f → before ≡ untyped_exports_of file → after ≡ map (typed (debug_of file)) before → after ≡ typed_exports_of f
unfolding typed_exports_of
typed-are f file before after held read is =
    is ∙ ap (map (typed (debug_of file))) read ∙ ap (λ (x : List ℕ). map (typed (debug_of x)) (untyped_exports_of x)) held

pub nodes-are : (f file : List ℕ) (before : List PlainExport) (nodes : List PlainNode) → file ≡ f → before ≡ untyped_exports_of file → nodes ≡ nodes_of (debug_of file) (roots_among (debug_of file) before) → nodes ≡ uncalled_graph_of f
nodes-are f file before nodes held read is =
    is ∙ ap (λ (es : List PlainExport). nodes_of (debug_of file) (roots_among (debug_of file) es)) read ∙ ap uncalled_graph_of held

pub library-is : (f : List ℕ) (soname : Option (Bor (List ℕ))) (exports : List Export) (nodes : List PlainNode) → option_copied soname ≡ soname_of f → plain_exports exports ≡ typed_exports_of f → nodes ≡ graph_of f
    → plain_library (sha256 f) soname exports nodes ≡ library_of f
unfolding library_of
library-is f soname exports nodes same_soname same_exports same_graph =
    λ i. record { digest = sha256 f; soname = same_soname i; exports = same_exports i; graph = same_graph i }

pub called-is : (f : List ℕ) (nodes : List PlainNode) (calls : List CallShape) (called : List PlainNode) → nodes ≡ uncalled_graph_of f → calls ≡ calls_of nodes → called ≡ shaped nodes calls → called ≡ graph_of f
unfolding graph_of
called-is f nodes calls called is shapes put =
    put ∙ ap (shaped nodes) shapes ∙ ap (λ (ns : List PlainNode). shaped ns (calls_of ns)) is

pub file-library : NodesStand → NodesAreGraph → AreInOrder → FillTheirTable → AreNumberedByPlace → ShapesChangeNothingElse → GivenCallsHavePlaces → (f : List ℕ) → length f ≤ input_limit → library_fault f ≡ None → IsLibrary (typed_exports_of f) (graph_of f)
unfolding graph_of typed_exports_of
file-library stand graph in_order whole places shapes have f small none = record {
  entries = entries-there shapes (debug_of f) (untyped_exports_of f) (uncalled_graph_of f) (file-nodes stand f none);
  numbered = file-numbered whole places f small (without_fault f none).symbols;
  places = have (uncalled_graph_of f) (uncalled-graph graph in_order f small none);
}
