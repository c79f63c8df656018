-- A file without debug information has no entries, and so no types.
use Rattle.std.proofs.Common.{◌≡◌, ℕ, Bool, true, false, cond, List, [], ◌∷◌, length, map, Option, None, refl, sym, ap, ◌∙◌, subst}
use Rattle.std.specs.Prelude.{find, filter}
use Rattle.std.specs.List.{range_with_len}
use Rattle.std.proofs.lemmas.List.Folds.{map_fixed}
use Rattle.abi_base.specs.declared.fault.Fault.{Fault}
use Rattle.abi_base.specs.Outcome.{first}
use Rattle.abi_base.specs.Runs.{run}
use Rattle.abi_types.specs.Exports.{PlainExport}
use Rattle.abi_types.specs.Graphs.{shaped, void_node}
use Rattle.abi_types.specs.Types.{PlainLabel, PlainNode}
use Rattle.dwarf_entries.specs.Addresses.{is_typed_at, typed_of}
use Rattle.dwarf_entries.specs.Debug.{PlainSections, PlainDwarf, dwarf_of}
use Rattle.dwarf_entries.specs.Pass.{dwarf_fault, entry_fault, own_fault}
use Rattle.dwarf_tree.specs.Trees.{PlainTree, TreeEntry, tree_of}
use Rattle.dwarf_units.specs.Sequence.{entries_fault, unit_step, units_from}
use Rattle.elf.specs.sections.DebugSections.{debug_info}
use Rattle.elf.specs.symbols.Symbols.{PlainSymbol, symbols_of}
use Rattle.elf.specs.versions.Versions.{PlainVersion, version_in}
use Rattle.psabi.specs.Calls.{calls_of}
use Rattle.type_reach.specs.declared.facts.Facts.{Facts}
use Rattle.type_reach.specs.Facts.{void_facts}
use Rattle.type_reach.specs.Faults.{reached_faults, types_fault}
use Rattle.type_reach.specs.Flat.{labels_of}
use Rattle.type_reach.specs.ReachedList.{is_reached, reached_of}
use Rattle.type_reach.specs.TypeLaws.{TypeLaws}
use Rattle.type_reach.specs.Views.{core_view, offset_of, view_by}
use Rattle.type_graph.specs.Nodes.{made_node, made_nodes, nodes_of, number_in}
use Rattle.elf_bind.specs.Exports.{export_of, export_with, exports_with}
use Rattle.library_read.specs.Debug.{debug_of, sections_in}
use Rattle.library_read.specs.Exports.{declared_by, entry_for, has_address, roots_among, roots_of, symbol_versions, typed, typed_exports_of, untyped_exports_of}
use Rattle.library_read.specs.Faults.{debug_fault}
use Rattle.library_read.specs.Libraries.{graph_of}
use Rattle.library_read.proofs.NumberLemmas.{IsMadeOf, made_of}
use Rattle.library_read.proofs.TypedLemmas.{given-all}

-- ---- no bytes, no entries

no-fault : (abbrevs : List ℕ) → entries_fault [] abbrevs ≡ None
unfolding entries_fault units_from run unit_step
no-fault abbrevs = refl

no-entries : (abbrevs : List ℕ) → (tree_of [] abbrevs).entries ≡ []
unfolding tree_of units_from run unit_step
no-entries abbrevs = refl

tree-none : (s : PlainSections) → s.info ≡ [] → (dwarf_of s).tree.entries ≡ []
tree-none s none = ap (λ (info : List ℕ). (tree_of info s.abbrev_).entries) none ∙ no-entries s.abbrev_

info-none : (f : List ℕ) → debug_info f ≡ [] → (sections_in f).info ≡ []
unfolding sections_in
info-none f none = none

debug-none : (f : List ℕ) → debug_info f ≡ [] → (debug_of f).tree.entries ≡ []
unfolding debug_of
debug-none f none = tree-none (sections_in f) (info-none f none)

-- ---- no entries, no faults and no types

both-none : (o p : Option Fault) → o ≡ None → p ≡ None → first (o ∷ p ∷ []) ≡ None
both-none o p none none' = rw (none, none') refl

own-none : (d : PlainDwarf) → d.tree.entries ≡ [] → own_fault d ≡ None
unfolding own_fault
own-none d none = ap (λ (es : List TreeEntry). first (map (entry_fault d) (range_with_len 0 (length es)))) none

reached-none : (t : PlainTree) (roots : List ℕ) → t.entries ≡ [] → reached_of t roots ≡ []
unfolding reached_of
reached-none t roots none = ap (λ (es : List TreeEntry). filter (is_reached t roots) (range_with_len 0 (length es))) none

types-none : (d : PlainDwarf) (roots : List ℕ) → d.tree.entries ≡ [] → types_fault d roots ≡ None
unfolding types_fault
types-none d roots none = ap (λ (reached : List ℕ). first (reached_faults d reached)) (reached-none d.tree roots none)

typed-none : (d : PlainDwarf) (address : ℕ) → d.tree.entries ≡ [] → typed_of d address ≡ None
unfolding typed_of
typed-none d address none = ap (λ (es : List TreeEntry). find (is_typed_at d address) (range_with_len 0 (length es))) none

entry_if-none : (b : Bool) (o : Option ℕ) → o ≡ None → cond b o None ≡ None
entry_if-none true o none = none
entry_if-none false o none = refl

entry-none : (d : PlainDwarf) (e : PlainExport) → d.tree.entries ≡ [] → entry_for d e ≡ None
unfolding entry_for
entry-none d e none = entry_if-none (has_address e) (typed_of d e.value) (typed-none d e.value none)

-- ---- exports stay as they are

made-same : (d : PlainDwarf) (s : PlainSymbol) (v : PlainVersion) → d.tree.entries ≡ [] → typed d (export_with s v) ≡ export_with s v
unfolding typed
made-same d s v none = ap (λ (o : Option ℕ). record (export_with s v) { declared = declared_by d s.name o; entry = offset_of d.tree o }) (entry-none d (export_with s v) none)

typed-same : (d : PlainDwarf) (s : PlainSymbol) (e : PlainExport) → d.tree.entries ≡ [] → IsMadeOf s e → typed d e ≡ e
typed-same d s e none made = subst (λ (x : PlainExport). typed d x ≡ x) (sym made.is) (made-same d s made.version none)

exports-same : (d : PlainDwarf) (symbols : List PlainSymbol) (versions : List (Option PlainVersion)) → d.tree.entries ≡ [] → map (typed d) (exports_with symbols versions) ≡ exports_with symbols versions
exports-same d symbols versions none =
    map_fixed (typed d) (exports_with symbols versions)
    (given-all (λ (s : PlainSymbol). export_of s (version_in versions s.number)) (λ (e : PlainExport). typed d e ≡ e)
    (λ s e is. typed-same d s e none (made_of s (version_in versions s.number) e is)) symbols)

-- ---- void is the only node

abbrev node_with : PlainDwarf → Facts → List PlainLabel → PlainNode
node_with d facts labels = record { entry = 0; rank = facts.rank; view = core_view (number_in []) d facts.align facts.core; labels = labels }

made-void : (d : PlainDwarf) → TypeLaws d → made_node d [] None ≡ void_node
unfolding view_by
made-void d laws = ap (λ (facts : Facts). node_with d facts (labels_of d None)) laws.facts_void ∙ ap (node_with d void_facts) laws.labels_void

nodes-none : (d : PlainDwarf) (roots : List ℕ) → TypeLaws d → d.tree.entries ≡ [] → nodes_of d roots ≡ void_node ∷ []
unfolding made_nodes
nodes-none d roots laws none = ap (made_nodes d) (reached-none d.tree roots none) ∙ ap (λ (n : PlainNode). n ∷ []) (made-void d laws)

shaped-void : shaped (void_node ∷ []) (calls_of (void_node ∷ [])) ≡ void_node ∷ []
unfolding shaped
shaped-void = refl

-- ---- the file

dwarf-none : (s : PlainSections) → s.info ≡ [] → dwarf_fault s ≡ None
unfolding dwarf_fault
dwarf-none s none =
    both-none (entries_fault s.info s.abbrev_) (own_fault (dwarf_of s)) (ap (λ (info : List ℕ). entries_fault info s.abbrev_) none ∙ no-fault s.abbrev_) (own-none (dwarf_of s) (tree-none s none))

pub file-faultless : (f : List ℕ) (exports : List PlainExport) → debug_info f ≡ [] → debug_fault f exports ≡ None
unfolding debug_fault
file-faultless f exports none =
    both-none (dwarf_fault (sections_in f)) (types_fault (debug_of f) (roots_among (debug_of f) exports)) (dwarf-none (sections_in f) (info-none f none)) (types-none (debug_of f) (roots_among (debug_of f) exports) (debug-none f none))

pub file-untyped : (f : List ℕ) → debug_info f ≡ [] → typed_exports_of f ≡ untyped_exports_of f
unfolding typed_exports_of untyped_exports_of
file-untyped f none = exports-same (debug_of f) (symbols_of f) (symbol_versions f) (debug-none f none)

pub file-void : ((d : PlainDwarf) → TypeLaws d) → (f : List ℕ) → debug_info f ≡ [] → graph_of f ≡ void_node ∷ []
unfolding graph_of
file-void laws f none = ap (λ (nodes : List PlainNode). shaped nodes (calls_of nodes)) (nodes-none (debug_of f) (roots_of f) (laws (debug_of f)) (debug-none f none)) ∙ shaped-void
