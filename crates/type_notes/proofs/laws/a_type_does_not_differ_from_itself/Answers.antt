use Rattle.type_notes.proofs.LawLemmas.{itself}
use Rattle.type_notes.proofs.laws.a_type_does_not_differ_from_itself.Goals as goal

pub returns : goal.returns
returns c = itself
