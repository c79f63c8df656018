use Rattle.std.proofs.Common.{◌≡◌, map, take}
use Rattle.abi_types.specs.Parts.{plain_part}
use Rattle.library_read.proofs.copy.copied_parts.Given as goal

abbrev pub invariant-loop-part : goal.invariant-loop-part
invariant-loop-part g l = map (plain_part g.To.Index.number_of) l.items.items ≡ map (plain_part g.From.Index.number_of) (take l.part-index l.part-items)
