use Rattle.pair_compare.proofs.certificates_lemmas.ScopeLemmas.{scope_is}
use Rattle.pair_compare.proofs.certificates.laws.typed_pairs_may_be_explored.Goals as goal

pub returns : goal.returns
returns c =
    λ s old new old_is new_is sound coarsest marks. scope_is s old old_is sound coarsest marks
    (record { exact = c.roots_are_typed_pairs.ensures.exact; ascending = c.roots_are_typed_pairs.ensures.ascending; nodes = c.roots_are_typed_pairs.ensures.nodes }) new new_is
