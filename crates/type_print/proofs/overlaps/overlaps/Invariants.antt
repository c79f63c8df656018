-- The rows so far are those of the members that were passed.
use Rattle.std.proofs.Common.{List}
use Rattle.type_print.specs.declared.extent.Extent.{Extent}
use Rattle.type_print.specs.Members.{NamesAll}
use Rattle.type_print.specs.Rows.{AreExactly, key_of}
use Rattle.type_print.proofs.OverlapLemmas.{IsOverlapUpto, Overlapped}
use Rattle.type_print.proofs.overlaps.overlaps.Given as goal

abbrev pub invariant-walk : goal.invariant-walk
invariant-walk l = record {
  kept : Overlapped l.members l.k l.first;
  rows : (all : List Extent) → NamesAll all l.members → AreExactly (IsOverlapUpto l.members l.k) (key_of all) l.rows.items;
}
