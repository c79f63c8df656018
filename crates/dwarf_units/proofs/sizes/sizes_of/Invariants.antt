use Rattle.std.proofs.Common.{◌≡◌, length}
use Rattle.dwarf_units.specs.Sizes.{AreSizes}
use Rattle.dwarf_units.proofs.sizes.sizes_of.Given as goal

abbrev pub invariant-loop-code : goal.invariant-loop-code
invariant-loop-code l = record {
  count : length l.sizes.items ≡ l.code;
  are : AreSizes l.table l.sizes.items;
}
