use Rattle.std.proofs.Common.{◌≡◌, take}
use Rattle.suppressions.proofs.ready_section.tests_of.Given as goal

-- the properties so far are prepared
abbrev pub invariant-loop-property : goal.invariant-loop-property
invariant-loop-property l = l.tests.items ≡ take l.property-index l.properties
