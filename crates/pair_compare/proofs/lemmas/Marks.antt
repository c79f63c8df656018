-- What makes marks those of an old library.
use Rattle.std.proofs.Common.{◌≡◌, ◌<◌, ℕ, Bool, false, List, length}
use Rattle.std.specs.Prelude.{slice_index_or}
use Rattle.abi_types.specs.declared.kind.Way.TheVariants.{Direct, Pointer}
use Rattle.abi_types.specs.declared.library.Marks.{Marks}
use Rattle.abi_types.specs.Types.{PlainNode}
use Rattle.abi_types.specs.Graphs.{node_at}
use Rattle.abi_types.specs.Libraries.{PlainLibrary}
use Rattle.pair_rules.specs.Steps.{Task}
use Rattle.pair_rules.specs.Stable.{AreEven}
use Rattle.cert_check.specs.Compatible.{sides, task_of}
use Rattle.pair_compare.specs.Marking.{AreMarksOf}

-- nodes with equal labels have equal flags
abbrev pub AreEvenFlags : List PlainNode → List Bool → Type 0
AreEvenFlags nodes flags = (a b : ℕ) → a < length nodes → b < length nodes → (node_at nodes a).labels ≡ (node_at nodes b).labels → slice_index_or flags a false ≡ slice_index_or flags b false

-- flags that are even at both ways make an exploration's marks even
both_ways : (t : Task) → AreEvenFlags t.old t.direct → AreEvenFlags t.old t.pointer → AreEven t
both_ways t direct pointer a b Direct a_inside b_inside same = direct a b a_inside b_inside same
both_ways t direct pointer a b Pointer a_inside b_inside same = pointer a b a_inside b_inside same

pub are_marks_of : (old : PlainLibrary) (marks : Marks) → length marks.exports ≡ length old.exports → length marks.direct ≡ length old.graph → length marks.pointer ≡ length old.graph → AreEvenFlags old.graph marks.direct → AreEvenFlags old.graph marks.pointer
    → AreMarksOf old marks
are_marks_of old marks exports direct pointer by_value by_pointer = record {
  exports = exports;
  direct = direct;
  pointer = pointer;
  even = λ new. both_ways (task_of (sides old new marks)) by_value by_pointer;
}
