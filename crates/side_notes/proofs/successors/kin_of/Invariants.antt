-- The places of the exports so far.
use Rattle.std.proofs.Common.{take}
use Rattle.abi_types.specs.Plain.{plain_exports}
use Rattle.side_notes.specs.Successors.{AreKin}
use Rattle.side_notes.proofs.successors.kin_of.Given as goal

abbrev pub invariant-list : goal.invariant-list
invariant-list l = AreKin l.old.exports (take l.place (plain_exports l.exports)) l.kin
