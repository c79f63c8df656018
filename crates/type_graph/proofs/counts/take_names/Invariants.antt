use Rattle.std.proofs.Common.{◌+◌, take}
use Rattle.std.specs.Prelude.{sum_by}
use Rattle.type_graph.specs.Counts.{letters_of}
use Rattle.type_graph.specs.Spending.{Takes}
use Rattle.type_graph.proofs.counts.take_names.Given as goal

abbrev pub invariant-entries : goal.invariant-entries
invariant-entries l = Takes l.fn.letters l.letters (0 + sum_by (letters_of l.dwarf) (take l.k l.entries))
