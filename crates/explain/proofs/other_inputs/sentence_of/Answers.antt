use Rattle.std.proofs.Common.{rules, Some, ap, inl, inr}
use Rattle.explain.proofs.other_inputs.sentence_of.Goals as goal

pub returns-in_default-name_of-clause-tells : goal.returns-in_default-name_of-clause-tells
returns-in_default-name_of-clause-tells c = inl (c.in-Some.name.now, search rules, inr (search rules, ap Some c.in_ok-note.ensures.says))

pub returns-clause-tells : goal.returns-clause-tells
returns-clause-tells c = inl (c.in-Some.name.now, search rules, inl (c.in-Some-name_of.path.now, search rules, ap Some c.in_ok-note-2.ensures.says))
