-- The rows of the breaks before this one, behind those that were there, and what they take.
use Rattle.std.proofs.Common.{◌≡◌, take}
use Rattle.pair_compare.specs.BoundPair.{sides_of}
use Rattle.pair_compare.specs.Limits.{row_size}
use Rattle.pair_compare.specs.reports.Rooms.{IsTaken}
use Rattle.pair_compare.proofs.reports_lemmas.ToldLemmas.{rows_with}
use Rattle.pair_compare.proofs.reports.type_findings.push_type_rows.Given as goal

abbrev pub invariant-loop-found : goal.invariant-loop-found
invariant-loop-found l = record {
  rows : l.rows.list ≡ rows_with (sides_of l.ground) l.explored.visits l.fn.rows.list (take l.found-index l.breaks);
  counted : IsTaken l.fn.rows.room.most row_size l.rows.list l.rows.room;
}
