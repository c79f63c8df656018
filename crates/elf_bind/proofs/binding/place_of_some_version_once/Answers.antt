-- What is kept under the first position of a name's exports is the answer for the name.
use Rattle.std.proofs.Common.{◌∙◌}
use Rattle.abi_types.specs.Plain.{plain_exports}
use Rattle.elf_bind.proofs.NamedLemmas.{answer_known, answers_more, some_version_is}
use Rattle.elf_bind.proofs.binding.place_of_some_version_once.Goals as goal

pub returns-in_default-clause-place : goal.returns-in_default-clause-place
returns-in_default-clause-place c = c.place_of_some_version.ensures ∙ some_version_is _ _ _ c.named_in-places.ensures

pub returns-in-Some-get-clause-place : goal.returns-in-Some-get-clause-place
returns-in-Some-get-clause-place c =
    answer_known (plain_exports c.args.offered.now) c.args.name.now c.named_in-places.result.now c.named_in-places.ensures c.in-Some.first c.in-Some.ensures c.args.answers.now
    c.requires.known c.in-Some-get.answer.now c.in-Some-get.ensures.value

pub returns-clause-place : goal.returns-clause-place
returns-clause-place c = c.place_of_some_version-answer.ensures ∙ some_version_is _ _ _ c.named_in-places.ensures

pub returns-clause-known : goal.returns-clause-known
returns-clause-known c =
    answers_more (plain_exports c.args.offered.now) c.args.name.now c.named_in-places.result.now c.named_in-places.ensures c.in-Some.first c.in-Some.ensures c.args.answers.now
    c.requires.known c.place_of_some_version-answer.result (c.place_of_some_version-answer.ensures ∙ some_version_is _ _ _ c.named_in-places.ensures) c.insert.new.self
    c.in_ok-insert.ensures.updates.0
