-- Where the two parts lead that the code reads.
use Rattle.std.proofs.Common.{◌∙◌}
use Rattle.pair_rules.proofs.Compared.{next_of-none, next_of-read, by_number}
use Rattle.pair_rules.proofs.comparison.next_of.Goals as goal

pub returns-in-None : goal.returns-in-None
returns-in-None c = next_of-none c.args.old.now c.args.new.now c.args.way c.args.i c.in-None.ensures.place

pub returns-in-Some : goal.returns-in-Some
returns-in-Some c =
    c.triple_of.ensures ∙ next_of-read c.args.old.now c.args.new.now c.args.way c.args.i c.in-Some.j _ _ _ _ _ c.in-Some.ensures.place c.part-part.ensures c.part.ensures (by_number _ _ c.to.ensures) (by_number _ _ c.to-in-Some.ensures) c.after.ensures
