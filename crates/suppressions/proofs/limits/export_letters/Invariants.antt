use Rattle.std.proofs.Common.{◌≡◌, ◌-◌, ◌^◌, map, take}
use Rattle.std.specs.Prelude.{min, sum_by}
use Rattle.abi_types.specs.Plain.{plain_export}
use Rattle.suppressions.specs.Weights.{export_letters}
use Rattle.suppressions.proofs.limits.export_letters.Given as goal

-- the letters of the exports so far
abbrev pub invariant-loop-export : goal.invariant-loop-export
invariant-loop-export l = l.letters ≡ min (sum_by (export_letters l.soname) (take l.export-index (map plain_export l.exports))) (2 ^ 64 - 1)
