use Rattle.cert_check.proofs.Sound.{KeepsAll-from, IsAccepted-from}
use Rattle.cert_check.proofs.laws.what_is_accepted_keeps_all.Goals as goal

pub returns : goal.returns
returns c = λ k. (KeepsAll-from k, IsAccepted-from k)
