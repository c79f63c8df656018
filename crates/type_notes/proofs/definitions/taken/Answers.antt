-- The other names keep their lists.
use Rattle.type_notes.proofs.DefinitionLemmas.{taken_others}
use Rattle.type_notes.proofs.definitions.taken.Goals as goal

pub returns-in-Some-clause-others : goal.returns-in-Some-clause-others
returns-in-Some-clause-others c = taken_others c.args.numbers.now c.remove.new.self c.args.name.now c.remove.ensures.updates.0
