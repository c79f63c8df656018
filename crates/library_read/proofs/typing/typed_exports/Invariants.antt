-- The exports before the next one have their types, and the others are as they were.
use Rattle.std.proofs.Common.{◌≡◌, ◌++◌, length, map, take, drop}
use Rattle.abi_base.specs.declared.limit.Limit.TheVariants.{DeclaredNames}
use Rattle.abi_base.proofs.lemmas.Budgets.{SpentOn}
use Rattle.abi_types.specs.Plain.{plain_exports}
use Rattle.library_read.specs.Exports.{typed}
use Rattle.library_read.specs.Limits.{declared_letters}
use Rattle.library_read.proofs.typing.typed_exports.Given as goal

abbrev pub invariant-exports : goal.invariant-exports
invariant-exports l = record {
  many : length l.exports.items ≡ length l.initial.exports.items;
  typed : plain_exports l.exports.items ≡ map (typed l.dwarf) (take l.k (plain_exports l.initial.exports.items)) ++ drop l.k (plain_exports l.initial.exports.items);
  letters : SpentOn DeclaredNames l.bytes (declared_letters l.dwarf) (take l.k (plain_exports l.initial.exports.items)) l.letters;
}
