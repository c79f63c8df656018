-- The rows so far are those of the members that were passed.
use Rattle.std.proofs.Common.{List, drop}
use Rattle.type_print.specs.declared.extent.Extent.{Extent}
use Rattle.type_print.specs.Sweeps.{FitsFrom, IsSwept}
use Rattle.type_print.proofs.fitting.fitting_rows.Given as goal

abbrev pub invariant-walk : goal.invariant-walk
invariant-walk l = record {
  fits : FitsFrom l.held (drop l.k l.members) l.bits;
  swept : (all : List Extent) → IsSwept all l.members l.bits l.rows.items l.held (drop l.k l.members);
}
