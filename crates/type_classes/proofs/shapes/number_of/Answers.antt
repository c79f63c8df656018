-- A shape that has no number yet gets one.
use Rattle.type_classes.proofs.NumberLemmas.{found_from, kept_from, fresh_from}
use Rattle.type_classes.proofs.shapes.number_of.Goals as goal

pub returns-clause-number : goal.returns-clause-number
returns-clause-number c = found_from c.args.numbers.now c.insert.new.self c.in_ok-copied.copied c.args.spelling.now c.args.fresh c.in_ok-copied.ensures.copied c.in_ok-insert.ensures.updates.0

pub returns-clause-kept : goal.returns-clause-kept
returns-clause-kept c = kept_from c.args.numbers.now c.insert.new.self c.in_ok-copied.copied c.args.spelling.now c.args.fresh c.in_ok-copied.ensures.copied c.in-None.ensures.value c.in_ok-insert.ensures.updates.0

pub returns-clause-fresh : goal.returns-clause-fresh
returns-clause-fresh c = fresh_from c.args.numbers.now c.insert.new.self c.in_ok-copied.copied c.args.spelling.now c.args.fresh c.in_ok-copied.ensures.copied c.in_ok-insert.ensures.updates.0
