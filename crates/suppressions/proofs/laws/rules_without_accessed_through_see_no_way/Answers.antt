use Rattle.suppression_text.specs.Rules.{rules_of}
use Rattle.suppressions.proofs.WayLemmas.{marks_at_both_ways, see_no_way}
use Rattle.suppressions.proofs.laws.rules_without_accessed_through_see_no_way.Goals as goal

pub returns-clause-types : goal.returns-clause-types
returns-clause-types c = see_no_way

pub returns-clause-marks : goal.returns-clause-marks
returns-clause-marks c = λ text old new none. (marks_at_both_ways (rules_of text) old none, marks_at_both_ways (rules_of text) new none)
