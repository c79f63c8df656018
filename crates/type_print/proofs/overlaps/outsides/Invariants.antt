-- The rows so far are those of the members that were passed.
use Rattle.std.proofs.Common.{List}
use Rattle.type_print.specs.declared.extent.Extent.{Extent}
use Rattle.type_print.specs.Members.{NamesAll}
use Rattle.type_print.specs.Rows.{AreExactly, key_of}
use Rattle.type_print.proofs.OverlapLemmas.{IsOutsideUpto}
use Rattle.type_print.proofs.overlaps.outsides.Given as goal

abbrev pub invariant-loop-member : goal.invariant-loop-member
invariant-loop-member l = (all : List Extent) → NamesAll all l.members → AreExactly (IsOutsideUpto l.members l.bits l.member-index) (key_of all) l.rows.items
