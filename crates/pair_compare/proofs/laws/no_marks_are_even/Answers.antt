use Rattle.pair_compare.proofs.Scoping.{no_marks-even}
use Rattle.pair_compare.proofs.laws.no_marks_are_even.Goals as goal

pub returns : goal.returns
returns c = no_marks-even
