use Rattle.type_notes.proofs.LawLemmas.{definition_itself}
use Rattle.type_notes.proofs.laws.a_definition_does_not_differ_from_itself.Goals as goal

pub returns : goal.returns
returns c = definition_itself
