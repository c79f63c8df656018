-- The letters of the parts before the position.
use Rattle.std.proofs.Common.{◌≡◌, ◌++◌, take, map}
use Rattle.std.specs.Prelude.{flat_map}
use Rattle.abi_types.specs.Parts.{plain_part}
use Rattle.type_classes.specs.Shapes.{letters_of_part}
use Rattle.type_classes.proofs.spelling.push_part_letters.Given as goal

abbrev pub invariant-parts : goal.invariant-parts
invariant-parts g l = l.into.items ≡ l.fn.into.items ++ flat_map letters_of_part (take l.i (map (plain_part g.Ix.Index.number_of) l.parts))
