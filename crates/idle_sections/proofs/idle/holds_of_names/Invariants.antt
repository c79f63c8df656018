-- The section has not changed, and the remaining names decide.
use Rattle.std.proofs.Common.{◌≡◌, map, drop}
use Rattle.std.specs.List.{list_any}
use Rattle.std.specs.Option.{option_copied}
use Rattle.abi_types.specs.Plain.{plain_label}
use Rattle.idle_sections.specs.Idle.{holds_of_label}
use Rattle.idle_sections.proofs.idle.holds_of_names.Given as goal

abbrev pub invariant-loop-label : goal.invariant-loop-label
invariant-loop-label l =
    (l.ready ≡ l.fn.ready) × (list_any (holds_of_label l.ready (option_copied l.soname)) (map plain_label (drop l.label-index l.names)) ≡ list_any (holds_of_label l.ready (option_copied l.soname)) (map plain_label l.names))
