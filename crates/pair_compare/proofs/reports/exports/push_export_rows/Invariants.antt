-- The rows on the sonames and on the first exports, behind those that were there, and what they take.
use Rattle.std.proofs.Common.{◌≡◌, ◌++◌}
use Rattle.pair_compare.specs.BoundPair.{sides_of}
use Rattle.pair_compare.specs.Limits.{row_size}
use Rattle.pair_compare.specs.reports.ExportRows.{rows_upto, soname_rows}
use Rattle.pair_compare.specs.reports.Rooms.{IsTaken}
use Rattle.pair_compare.proofs.reports.exports.push_export_rows.Given as goal

abbrev pub invariant-exports : goal.invariant-exports
invariant-exports l = record {
  rows : l.rows.list ≡ l.fn.rows.list ++ (soname_rows l.ground.old.now.soname l.ground.new.now.soname ++ rows_upto (sides_of l.ground) l.k);
  counted : IsTaken l.fn.rows.room.most row_size l.rows.list l.rows.room;
}
