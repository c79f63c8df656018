-- What is before the position is spelled.
use Rattle.std.proofs.Common.{◌≡◌, ◌++◌, ◌∷◌, length, take}
use Rattle.std.specs.Prelude.{flat_map}
use Rattle.type_classes.specs.Shapes.{spelled_place}
use Rattle.type_classes.proofs.spelling.push_places.Given as goal

abbrev pub invariant-places : goal.invariant-places
invariant-places l = l.into.items ≡ l.fn.into.items ++ length l.places ∷ flat_map spelled_place (take l.i l.places)
