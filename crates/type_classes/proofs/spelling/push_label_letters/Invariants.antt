-- The letters of the labels before the position.
use Rattle.std.proofs.Common.{◌≡◌, ◌++◌, take, map}
use Rattle.std.specs.Prelude.{flat_map}
use Rattle.abi_types.specs.Plain.{plain_label}
use Rattle.type_classes.specs.Shapes.{letters_of_label}
use Rattle.type_classes.proofs.spelling.push_label_letters.Given as goal

abbrev pub invariant-labels : goal.invariant-labels
invariant-labels l = l.into.items ≡ l.fn.into.items ++ flat_map letters_of_label (take l.i (map plain_label l.labels))
