use Rattle.std.proofs.Common.{◌≡◌, map, take}
use Rattle.type_reach.specs.Summaries.{summary_of}
use Rattle.type_reach.proofs.summaries.summaries_of.Given as goal

abbrev pub invariant-facts : goal.invariant-facts
invariant-facts l = l.summaries.items ≡ map summary_of (take l.k l.facts)
