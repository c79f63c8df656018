use Rattle.std.proofs.Common.{◌≡◌, map, take}
use Rattle.std.specs.Option.{option_copied}
use Rattle.abi_types.specs.declared.kind.Way.TheVariants.{Direct, Pointer}
use Rattle.abi_types.specs.Plain.{plain_label}
use Rattle.suppressions.specs.Meaning.{marks_names}
use Rattle.suppressions.specs.Known.{IsKnown}
use Rattle.suppressions.proofs.accessed_through.names_once.Given as goal

-- the answers are those for the names so far
abbrev pub invariant-loop-label : goal.invariant-loop-label
invariant-loop-label l = record {
  same : l.sections ≡ l.fn.sections;
  known : IsKnown l.sections (option_copied l.soname) l.known;
  direct : l.direct ≡ marks_names l.sections (option_copied l.soname) Direct (map plain_label (take l.label-index l.labels));
  pointer : l.pointer ≡ marks_names l.sections (option_copied l.soname) Pointer (map plain_label (take l.label-index l.labels));
}
