use Rattle.std.proofs.Common.{◌≡◌, map, take}
use Rattle.std.specs.Option.{option_copied}
use Rattle.abi_types.specs.Plain.{plain_exports}
use Rattle.suppressions.specs.Meaning.{drops}
use Rattle.suppressions.proofs.marking.export_flags.Given as goal

-- the sections have not changed, and the flags are those of the exports so far
abbrev pub invariant-loop-export : goal.invariant-loop-export
invariant-loop-export l = (l.sections ≡ l.fn.sections) × (l.flags ≡ map (drops l.sections (option_copied l.soname)) (plain_exports (take l.export-index l.exports)))
