-- The versions of the exports so far.
use Rattle.std.proofs.Common.{◌≡◌, take}
use Rattle.abi_types.specs.Plain.{plain_exports}
use Rattle.side_notes.specs.Versions.{versions_of}
use Rattle.side_notes.proofs.versions.versions_of.Given as goal

abbrev pub invariant-loop-export : goal.invariant-loop-export
invariant-loop-export l = l.kept ≡ versions_of (plain_exports (take l.export-index l.exports))
