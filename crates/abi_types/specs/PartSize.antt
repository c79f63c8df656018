-- The size of parts in memory.
use denote.RattleType.{RattleType}
use denote.Signature.{static_lft}
use Rattle.std.specs.Mem.{FitsInMemory}
use Rattle.abi_types.specs.contracts.part.Part.{the_row as part_row}

-- A part with a node of this type fits in memory. Its size does not depend on lifetimes.
abbrev pub PartFits : RattleType → Type 0
PartFits Ix = FitsInMemory (part_row static_lft Ix)
