-- The section has not changed, and the remaining exports decide.
use Rattle.std.proofs.Common.{◌≡◌, drop}
use Rattle.std.specs.List.{list_any}
use Rattle.std.specs.Option.{option_copied}
use Rattle.abi_types.specs.Plain.{plain_exports}
use Rattle.idle_sections.specs.Idle.{holds_of_export}
use Rattle.idle_sections.proofs.idle.holds_of_exports.Given as goal

abbrev pub invariant-loop-export : goal.invariant-loop-export
invariant-loop-export l =
    (l.ready ≡ l.fn.ready) × (list_any (holds_of_export l.ready (option_copied l.soname)) (plain_exports (drop l.export-index l.exports)) ≡ list_any (holds_of_export l.ready (option_copied l.soname)) (plain_exports l.exports))
