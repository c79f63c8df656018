use Rattle.library_check.proofs.VoiceLemmas.{wanted_tell}
use Rattle.library_check.proofs.laws.the_rows_decide_the_texts_of_a_style.Goals as goal

pub returns : goal.returns
returns c = λ wanted voices apart. wanted_tell wanted apart voices
