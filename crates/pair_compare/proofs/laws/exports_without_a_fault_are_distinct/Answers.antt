use Rattle.pair_compare.proofs.Apart.{distinct_from_none, none_from_distinct, distinct_from_read}
use Rattle.pair_compare.proofs.laws.exports_without_a_fault_are_distinct.Goals as goal

pub returns-clause-exact : goal.returns-clause-exact
returns-clause-exact c = λ exports. (distinct_from_none exports, none_from_distinct exports)

pub returns-clause-read : goal.returns-clause-read
returns-clause-read c = distinct_from_read
