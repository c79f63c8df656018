-- Two libraries with marks, and what the exports bind to.
use Rattle.std.specs.Prelude.{◌≡◌, ℕ, slice_get, slice_index_or, option_and_then, Option, None}
use Rattle.abi_types.specs.Exports.{PlainExport}
use Rattle.elf_bind.specs.Binding.{bind_each}
use Rattle.cert_check.specs.Compatible.{Sides, sides}
use Rattle.pair_compare.specs.declared.bound_pair.BoundPair.{BoundPair}

abbrev pub sides_of : BoundPair → Sides
sides_of g = sides g.old.now g.new.now g.marks.now

-- each old export binds to the new export at its position in the list
pub record IsBinding (g : BoundPair) : Type 0 where
  pub is : g.bound.now ≡ bind_each g.old.now.exports g.new.now.exports

-- the new export to which the old one at a position binds
abbrev pub partner : BoundPair → ℕ → Option PlainExport
partner g k = option_and_then (slice_get g.new.now.exports) (slice_index_or g.bound.now k None)
