use Rattle.std.proofs.Common.{rules}
use Rattle.std.specs.Ordering.{is_lt}
use Rattle.std.proofs.lemmas.Fn.{always_returns_same}
use Rattle.std.proofs.lemmas.List.Sorted.{ranks_by}
use Rattle.abi_types.specs.declared.lookup.NamedPlace.{NamedPlace}
use Rattle.abi_types.proofs.LookupLemmas.{key_cmp, key_of, key_total}
use Rattle.abi_types.proofs.lookup.in_order.Goals as goal

pub returns-clause-order : goal.returns-clause-order
returns-clause-order c =
    c.sort_unstable_by.ensures.sorted (λ (a b : NamedPlace). is_lt (key_cmp (key_of a) (key_of b))) (ranks_by key_total key_of) (always_returns_same _ _ _ (λ a r f q. search rules))
