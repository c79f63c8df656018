-- The rows before this one were taken.
use Rattle.std.proofs.Common.{take}
use Rattle.pair_compare.specs.Limits.{row_size}
use Rattle.pair_compare.specs.reports.Rooms.{IsTaken}
use Rattle.pair_compare.proofs.reports.rows.take_rows.Given as goal

abbrev pub invariant-loop-k : goal.invariant-loop-k
invariant-loop-k l = IsTaken l.fn.room.most row_size (take l.k l.rows) l.room
