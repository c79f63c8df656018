use Rattle.app_check.specs.Imports.{imports_of}
use Rattle.library_read.specs.Libraries.{library_of}
use Rattle.suppression_text.specs.Rules.{rules_of}
use Rattle.library_check.specs.Applications.{sides_for}
use Rattle.library_check.proofs.AppAnswers.{not_no}
use Rattle.library_check.proofs.AppLemmas.{compatible_used}
use Rattle.library_check.proofs.laws.what_may_replace_may_for_each_application.Goals as goal

pub returns-clause-compatible : goal.returns-clause-compatible
returns-clause-compatible c = λ app old new rules compatible.
    compatible_used c.roots_are_typed_pairs.ensures.exact (imports_of app) (library_of old) (library_of new) (rules_of rules) compatible

pub returns-clause-yes : goal.returns-clause-yes
returns-clause-yes c = λ voices app old new rules v text compatible is.
    not_no voices (sides_for app old new rules) v text (compatible_used c.roots_are_typed_pairs.ensures.exact (imports_of app) (library_of old) (library_of new) (rules_of rules) compatible) is
