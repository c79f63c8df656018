-- The list of the name is put back with one number more.
use Rattle.type_notes.proofs.DefinitionLemmas.{kept}
use Rattle.type_notes.proofs.definitions.keep.Goals as goal

pub returns : goal.returns
returns c =
    kept c.args.numbers.now c.taken-list.new.numbers c.insert.new.self c.args.name.now c.taken-list.result c.push.new.self c.args.number c.taken-list.ensures.list c.in_ok-push.ensures.ok c.taken-list.ensures.others c.in_ok-insert.ensures.updates.0
