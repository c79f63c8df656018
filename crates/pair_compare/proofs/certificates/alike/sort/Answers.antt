use Rattle.std.proofs.Common.{rules, ℕ}
use Rattle.std.proofs.lemmas.List.Sorted.{answers_always}
use Rattle.pair_compare.proofs.certificates.alike.sort.Goals as goal

pub returns-clause-sorted : goal.returns-clause-sorted
returns-clause-sorted c = c.sort_unstable_by_key.ensures.sorted (λ (line : ℕ × ℕ). line.0) (answers_always _ _ _ (λ f a r q k. search rules))
