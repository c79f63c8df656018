-- The first visits have numbers.
use Rattle.leading_exports.specs.Numbers.{AreNumbersUpto}
use Rattle.leading_exports.proofs.numbers.numbers_of.Given as goal

abbrev pub invariant-visits : goal.invariant-visits
invariant-visits l = AreNumbersUpto l.visits l.number l.numbers
