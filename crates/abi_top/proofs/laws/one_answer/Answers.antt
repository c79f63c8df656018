use Rattle.abi_top.proofs.Single.{one_answer}
use Rattle.abi_top.proofs.laws.one_answer.Goals as goal

pub returns : goal.returns
returns c = one_answer (record {
  check_text = record { certificate = c.a_check_has_one_text.ensures.certificate; report = c.a_check_has_one_text.ensures.report };
  verification = c.a_verification_has_one_answer.ensures;
  migration = c.a_migration_has_one_answer.ensures.answer;
  composition = c.a_composition_has_one_answer.ensures.answer;
  layout_text = record { layout_text = c.a_layout_has_one_answer.ensures.text; layout_apart = c.a_layout_has_one_answer.ensures.tag };
  application = c.an_application_has_one_answer.ensures.answer;
  tried = c.a_trial_has_one_text.ensures;
  counted = c.a_trial_is_of_a_count.ensures;
})
