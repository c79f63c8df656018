-- What was found among the nodes so far.
use Rattle.std.proofs.Common.{◌<◌, length}
use Rattle.std.specs.Option.{option_map, ForSome}
use Rattle.type_print.proofs.FindLemmas.{IsFoundBelow}
use Rattle.type_print.proofs.find.find_tag.Given as goal

abbrev pub invariant-loop-number : goal.invariant-loop-number
invariant-loop-number g l = record {
  inside : ForSome l.found (λ other. g.Ix.Index.number_of other < length l.graph);
  found : IsFoundBelow l.graph l.tag l.number (option_map g.Ix.Index.number_of l.found);
}
