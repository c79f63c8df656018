use Rattle.std.proofs.Common.{◌≡◌, map, drop}
use Rattle.std.specs.Option.{option_copied}
use Rattle.abi_types.specs.Plain.{plain_label}
use Rattle.suppressions.specs.Meaning.{marks_names}
use Rattle.suppressions.proofs.marking.marks_labels.Given as goal

-- the sections have not changed, and the remaining names decide
abbrev pub invariant-loop-label : goal.invariant-loop-label
invariant-loop-label l = (l.sections ≡ l.fn.sections) × (marks_names l.sections (option_copied l.soname) l.way (map plain_label (drop l.label-index l.labels)) ≡ marks_names l.sections (option_copied l.soname) l.way (map plain_label l.labels))
