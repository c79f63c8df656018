use Rattle.std.proofs.Common.{ap, ◌∙◌}
use Rattle.cert_text.specs.Forms.{form_of}
use Rattle.cert_text.proofs.FormLemmas.{form_is}
use Rattle.cert_text.proofs.CompleteLemmas.{form_read}
use Rattle.cert_text.proofs.laws.what_is_read_is_spelled.Goals as goal

pub returns : goal.returns
returns c = λ v text line. (form_is v text line, λ is. ap (form_of v) is.is ∙ form_read v line is.numbers)
