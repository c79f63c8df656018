use Rattle.library_check.specs.Checks.{sides_of}
use Rattle.library_check.proofs.MigrationLemmas.{unrefused}
use Rattle.library_check.proofs.laws.what_was_accepted_is_migrated.Goals as goal

pub returns : goal.returns
returns c = λ old new rules certificate cert refusal none spelled is refused.
    unrefused c.a_text_is_of_one_certificate_of_version_1.ensures (sides_of old new rules) certificate cert refusal spelled
    (c.a_certificate_may_be_migrated_without_accessed_through.ensures old new rules cert none is) refused
