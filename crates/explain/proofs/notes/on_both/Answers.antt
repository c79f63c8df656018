use Rattle.std.proofs.Common.{rules, inl, inr}
use Rattle.explain.proofs.notes.on_both.Goals as goal

pub returns-in_default-name_of-clause-tells : goal.returns-in_default-name_of-clause-tells
returns-in_default-name_of-clause-tells c = inl (c.in-Some.old.now, search rules, inr (search rules, search rules))
