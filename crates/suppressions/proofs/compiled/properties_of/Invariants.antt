use Rattle.std.proofs.Common.{◌≡◌, take}
use Rattle.suppressions.proofs.compiled.properties_of.Given as goal

-- the properties so far are compiled
abbrev pub invariant-loop-property : goal.invariant-loop-property
invariant-loop-property l = l.compiled.items ≡ take l.property-index l.properties
