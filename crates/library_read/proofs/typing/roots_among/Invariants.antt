-- The entries of the exports before the next one are there.
use Rattle.std.proofs.Common.{◌≡◌, take}
use Rattle.abi_types.specs.Plain.{plain_exports}
use Rattle.library_read.specs.Exports.{roots_among}
use Rattle.library_read.proofs.typing.roots_among.Given as goal

abbrev pub invariant-exports : goal.invariant-exports
invariant-exports l = l.roots.items ≡ roots_among l.dwarf (take l.k (plain_exports l.exports))
