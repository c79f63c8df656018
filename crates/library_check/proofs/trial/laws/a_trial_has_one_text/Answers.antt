use Rattle.std.proofs.Common.{[], inl}
use Rattle.std.proofs.lemmas.List.Elements.{All-cons, All-nil}
use Rattle.report.specs.Listening.{styled}
use Rattle.report.specs.declared.style.Style.TheVariants.{Text}
use Rattle.library_check.specs.Voices.{TellsItsText}
use Rattle.library_check.specs.trial.Trials.{trial_voices}
use Rattle.library_check.proofs.trial_lemmas.OneText.{one_text}
use Rattle.library_check.proofs.trial.laws.a_trial_has_one_text.Goals as goal

pub returns : goal.returns
returns c = λ n lines other few one two.
    let tell = All-cons TellsItsText (styled Text) [] (inl (λ own. cc)) (All-nil TellsItsText) in
    one_text n lines other
    (record { certificate = c.a_check_has_one_text.ensures.certificate; report = λ old new rules text other. c.a_check_has_one_text.ensures.report trial_voices old new rules text other tell })
    (λ side. c.made_libraries_are_no_longer_than_inputs.ensures n side few) one two
