use Rattle.std.proofs.Common.{◌≡◌, ◌-◌, drop, length}
use Rattle.std.specs.List.{list_all}
use Rattle.suppressions.specs.PlainSubjects.{plain_subject}
use Rattle.suppressions.specs.Meaning.{property_holds}
use Rattle.suppressions.proofs.ready_section.all_hold.Given as goal

-- the properties have not changed, and the remaining ones decide
abbrev pub invariant-tests : goal.invariant-tests
invariant-tests l = (l.tests ≡ l.fn.tests) × (list_all (property_holds (plain_subject l.subject)) (drop l.at l.tests) ≡ list_all (property_holds (plain_subject l.subject)) l.tests)

abbrev pub decreases-tests : goal.decreases-tests
decreases-tests l = length l.tests - l.at
