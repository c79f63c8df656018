-- The budget is one for notes.
use Rattle.std.proofs.Common.{◌≡◌}
use Rattle.abi_base.specs.declared.limit.Limit.TheVariants.{Notes}
use Rattle.side_notes.proofs.added.count_labels.Given as goal

abbrev pub invariant-loop-export : goal.invariant-loop-export
invariant-loop-export l = l.budget.limit ≡ Notes
