use Rattle.library_read.specs.Libraries.{library_of}
use Rattle.library_check.specs.Checks.{sides_of}
use Rattle.library_check.proofs.laws.a_certificate_may_be_migrated_without_accessed_through.Goals as goal

pub returns : goal.returns
returns c = λ old new rules certificate none is.
    let both = c.rules_without_accessed_through_see_no_way.ensures.marks rules (library_of old) (library_of new) none in
    c.a_migrated_certificate_is_accepted.ensures (sides_of old new rules) certificate both.0 is
