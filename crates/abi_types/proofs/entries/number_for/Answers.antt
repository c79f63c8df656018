use Rattle.std.proofs.Common.{rules}
use Rattle.std.proofs.lemmas.Fn.{always_returns_same}
use Rattle.abi_types.specs.Entries.{entry_at}
use Rattle.abi_types.proofs.EntryLemmas.{found_number, number_inside, no_number, searchable}
use Rattle.abi_types.proofs.entries.number_for.Goals as goal

pub returns-in-Ok-clause-inside : goal.returns-in-Ok-clause-inside
returns-in-Ok-clause-inside g c = number_inside c.args.nodes.now c.args.order.now c.in-Ok.k c.requires c.in-Ok.ensures.bound

pub returns-in-Ok-clause-some : goal.returns-in-Ok-clause-some
returns-in-Ok-clause-some g c =
    found_number c.args.nodes.now c.args.order.now c.args.entry c.in-Ok.k (c.in-Ok.ensures.position (entry_at c.args.nodes.now) (always_returns_same _ _ _ (λ a r f q. search rules)))

pub returns-in-Err-clause-none : goal.returns-in-Err-clause-none
returns-in-Err-clause-none g c =
    no_number c.args.nodes.now c.args.order.now c.args.entry c.in-Err.field-0
    (c.in-Err.ensures.position (entry_at c.args.nodes.now) (always_returns_same _ _ _ (λ a r f q. search rules)) (searchable c.args.nodes.now c.args.order.now c.args.entry c.requires.rises))
