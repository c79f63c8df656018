-- What is before the position is spelled.
use Rattle.std.proofs.Common.{◌≡◌, ◌++◌, ◌∷◌, length, take, map}
use Rattle.std.specs.Prelude.{flat_map}
use Rattle.abi_types.specs.Plain.{plain_label}
use Rattle.type_classes.specs.Shapes.{spelled_label}
use Rattle.type_classes.proofs.spelling.push_labels.Given as goal

abbrev pub invariant-labels : goal.invariant-labels
invariant-labels l = l.into.items ≡ l.fn.into.items ++ length l.labels ∷ flat_map spelled_label (take l.i (map plain_label l.labels))
