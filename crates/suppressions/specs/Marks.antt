-- What a rule file suppresses in a library.
use Rattle.std.specs.Prelude.{◌≡◌, ◌<◌, ℕ, Bool, false, List, length, map, slice_index_or}
use Rattle.abi_types.specs.declared.kind.Way.{Way}
use Rattle.abi_types.specs.declared.kind.Way.TheVariants.{Direct, Pointer}
use Rattle.abi_types.specs.declared.library.Marks.{Marks}
use Rattle.abi_types.specs.Types.{PlainNode}
use Rattle.abi_types.specs.Graphs.{node_at}
use Rattle.abi_types.specs.Libraries.{PlainLibrary}
use Rattle.suppression_text.specs.Rules.{PlainRules, rules_of}
use Rattle.suppressions.specs.Meaning.{is_dropped, is_marked}

-- for each node, whether it is marked, if a program reaches it in this way
abbrev pub way_flags : PlainRules → PlainLibrary → Way → List Bool
way_flags rules old way = map (λ (n : PlainNode). is_marked rules old.soname n.labels way) old.graph

abbrev pub export_flags : PlainRules → PlainLibrary → List Bool
export_flags rules old = map (is_dropped rules old.soname) old.exports

unfoldable pub marks_of : PlainRules → PlainLibrary → Marks
marks_of rules old = record {
  digest = rules.digest;
  exports = export_flags rules old;
  direct = way_flags rules old Direct;
  pointer = way_flags rules old Pointer;
}

-- what the text of a rule file suppresses in a library
abbrev pub marks_of_text : List ℕ → PlainLibrary → Marks
marks_of_text text library = marks_of (rules_of text) library

-- each node has a flag, and nodes with equal labels have equal flags
pub record IsEven (nodes : List PlainNode) (flags : List Bool) : Type 0 where
  pub each : length flags ≡ length nodes
  pub even : (a b : ℕ) → a < length nodes → b < length nodes → (node_at nodes a).labels ≡ (node_at nodes b).labels → slice_index_or flags a false ≡ slice_index_or flags b false

-- each export and each node has a mark, and nodes with equal labels have equal marks, by value and through a pointer
pub record AreEvenMarks (library : PlainLibrary) (marks : Marks) : Type 0 where
  pub exports : length marks.exports ≡ length library.exports
  pub direct : IsEven library.graph marks.direct
  pub pointer : IsEven library.graph marks.pointer

-- each node is marked both by value and through a pointer, or not at all
abbrev pub AreAtBothWays : Marks → Type 0
AreAtBothWays marks = marks.pointer ≡ marks.direct
