-- What is before the position is spelled.
use Rattle.std.proofs.Common.{◌≡◌, ◌++◌, ◌∷◌, length, take, map}
use Rattle.std.specs.Prelude.{flat_map}
use Rattle.abi_types.specs.Parts.{plain_part}
use Rattle.type_classes.specs.Shapes.{spelled_part}
use Rattle.type_classes.proofs.spelling.push_parts.Given as goal

abbrev pub invariant-parts : goal.invariant-parts
invariant-parts g l = l.into.items ≡ l.fn.into.items ++ length l.parts ∷ flat_map spelled_part (take l.i (map (plain_part g.Ix.Index.number_of) l.parts))
