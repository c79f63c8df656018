use Rattle.suppression_text.specs.Rules.{rules_of}
use Rattle.suppressions.proofs.MarkLemmas.{marks_are_even}
use Rattle.suppressions.proofs.laws.a_rule_file_marks_equal_labels_alike.Goals as goal

pub returns : goal.returns
returns c = λ text library. marks_are_even (rules_of text) library
