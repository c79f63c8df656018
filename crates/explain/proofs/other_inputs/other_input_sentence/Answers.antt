use Rattle.std.proofs.Common.{IfOk, None, map, option_map, refl, string_bytes, subst}
use Rattle.commands.specs.Commands.{plain_file}
use Rattle.explain.specs.OtherInputs.{TellsOtherInput}
use Rattle.explain.proofs.other_inputs.other_input_sentence.Goals as goal

pub returns-in-Some-clause-tells : goal.returns-in-Some-clause-tells
returns-in-Some-clause-tells c =
    subst (λ o. IfOk c.sentence_on.result (λ found. TellsOtherInput (map plain_file c.args.files.now) o (option_map string_bytes found))) c.in-Some.ensures c.sentence_on.ensures.tells

pub returns-in-None-clause-tells : goal.returns-in-None-clause-tells
returns-in-None-clause-tells c = subst (λ o. TellsOtherInput (map plain_file c.args.files.now) o None) c.in-None.ensures refl
