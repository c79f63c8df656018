-- The rows of the members so far.
use Rattle.std.proofs.Common.{◌≡◌, map, take}
use Rattle.type_print.specs.Members.{row_of}
use Rattle.type_print.proofs.rows.clashing_rows.Given as goal

abbrev pub invariant-loop-member : goal.invariant-loop-member
invariant-loop-member l = l.rows.items ≡ map row_of (take l.member-index l.members)
