-- What is kept of the breaks before this one, their keys, and what the details take.
use Rattle.std.proofs.Common.{take}
use Rattle.cert_check.specs.Compatible.{task_of}
use Rattle.pair_compare.specs.BoundPair.{sides_of}
use Rattle.pair_compare.specs.Limits.{break_size}
use Rattle.pair_compare.specs.reports.Rooms.{IsTaken}
use Rattle.pair_compare.proofs.reports_lemmas.ToldLemmas.{IsTelling}
use Rattle.pair_compare.proofs.reports.type_findings.told.Given as goal

abbrev pub invariant-loop-found : goal.invariant-loop-found
invariant-loop-found l = record {
  telling : IsTelling (task_of (sides_of l.ground)) l.explored.visits l.breaks l.found-index l.keys l.told;
  counted : IsTaken l.initial.room.most (break_size (sides_of l.ground) l.explored.visits) (take l.found-index l.breaks) l.room;
}
