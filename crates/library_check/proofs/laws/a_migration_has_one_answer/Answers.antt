use Rattle.library_check.specs.Checks.{sides_of}
use Rattle.library_check.proofs.MigrationLemmas.{apart, one_answer, one_migrated, one_unmigrated}
use Rattle.library_check.proofs.laws.a_migration_has_one_answer.Goals as goal

pub returns-clause-answer : goal.returns-clause-answer
returns-clause-answer c = one_answer c.a_text_is_of_one_certificate_of_version_1.ensures c.one_place_fails_first.ensures

pub returns-clause-text : goal.returns-clause-text
returns-clause-text c = λ old new rules certificate text other one two.
    one_migrated c.a_text_is_of_one_certificate_of_version_1.ensures (sides_of old new rules) certificate text other one two

pub returns-clause-refusal : goal.returns-clause-refusal
returns-clause-refusal c = λ old new rules certificate refusal another one two.
    one_unmigrated c.a_text_is_of_one_certificate_of_version_1.ensures (sides_of old new rules) certificate c.one_place_fails_first.ensures refusal another one two

pub returns-clause-apart : goal.returns-clause-apart
returns-clause-apart c = λ old new rules certificate text refusal one other.
    apart c.a_text_is_of_one_certificate_of_version_1.ensures (sides_of old new rules) certificate text refusal one other
