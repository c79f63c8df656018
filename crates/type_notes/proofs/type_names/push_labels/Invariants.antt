-- The names so far.
use Rattle.std.proofs.Common.{◌≡◌, ◌++◌, map, take, string_bytes}
use Rattle.std.specs.List.{flat_map}
use Rattle.abi_types.specs.Plain.{plain_label}
use Rattle.type_notes.specs.TypeNames.{label_behind}
use Rattle.type_notes.proofs.type_names.push_labels.Given as goal

abbrev pub invariant-loop-label : goal.invariant-loop-label
invariant-loop-label l = string_bytes l.text ≡ string_bytes l.fn.text ++ flat_map label_behind (map plain_label (take l.label-index l.labels))
