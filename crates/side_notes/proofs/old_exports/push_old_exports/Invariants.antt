-- The notes on the first exports, behind those that were there.
use Rattle.std.proofs.Common.{◌≡◌, ◌++◌}
use Rattle.side_notes.specs.OldExports.{notes_upto}
use Rattle.side_notes.proofs.old_exports.push_old_exports.Given as goal

abbrev pub invariant-exports : goal.invariant-exports
invariant-exports l = l.notes ≡ l.fn.notes ++ notes_upto l.marks.exports l.old.exports l.new.exports l.k
