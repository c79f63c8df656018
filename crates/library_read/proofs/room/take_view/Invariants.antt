use Rattle.std.proofs.Common.{◌+◌, length, take}
use Rattle.std.specs.Prelude.{sum_by}
use Rattle.abi_types.specs.Parts.{plain_part}
use Rattle.type_graph.specs.Spending.{Takes}
use Rattle.library_read.specs.Limits.{part_letters}
use Rattle.library_read.proofs.room.take_view.Given as goal

abbrev pub invariant-loop-part : goal.invariant-loop-part
invariant-loop-part g l = Takes l.fn.letters l.letters (length l.view.tag + sum_by (λ p. part_letters (plain_part g.Ix.Index.number_of p)) (take l.part-index l.items))
