use Rattle.std.proofs.Common.{rules, ℕ, Bool}
use Rattle.std.proofs.lemmas.List.Sorted.{answers_always}
use Rattle.cert_text.specs.Certs.{PairLine, is_pointer}
use Rattle.pair_compare.proofs.certificates.pairs.sort.Goals as goal

abbrev key_in : PairLine → ℕ × ℕ × Bool
key_in line = (line.0, line.1, is_pointer line.2)

pub returns-clause-sorted : goal.returns-clause-sorted
returns-clause-sorted c = c.sort_unstable_by_key.ensures.sorted key_in (answers_always _ _ _ (λ f a r q k. search rules))
