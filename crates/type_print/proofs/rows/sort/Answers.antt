use Rattle.std.proofs.Common.{rules, ℕ, Bool}
use Rattle.std.specs.Prelude.{nat_lt}
use Rattle.std.proofs.lemmas.List.Sorted.{answers_always}
use Rattle.type_print.specs.declared.extent.Extent.{Extent}
use Rattle.type_print.proofs.rows.sort.Goals as goal

abbrev key_in : Extent → ℕ × Bool × ℕ
key_in member = (member.bit, nat_lt 0 member.width, member.part)

pub returns-clause-sorted : goal.returns-clause-sorted
returns-clause-sorted c = c.sort_unstable_by_key.ensures.sorted key_in (answers_always _ _ _ (λ f a r q k. search rules))
