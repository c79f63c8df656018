use Rattle.std.proofs.Common.{◌+◌, length, take}
use Rattle.std.specs.Prelude.{sum_by}
use Rattle.abi_types.specs.Plain.{plain_label}
use Rattle.type_graph.specs.Spending.{Takes}
use Rattle.library_read.proofs.room.take_labels.Given as goal

abbrev pub invariant-loop-label : goal.invariant-loop-label
invariant-loop-label l = Takes l.fn.letters l.letters (0 + sum_by (λ x. length (plain_label x).name) (take l.label-index l.labels))
