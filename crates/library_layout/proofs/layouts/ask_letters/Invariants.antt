-- What the names so far have was taken.
use Rattle.std.proofs.Common.{take}
use Rattle.abi_base.specs.declared.limit.Limit.TheVariants.{LayoutNames}
use Rattle.abi_base.proofs.lemmas.Budgets.{SpentOn}
use Rattle.library_layout.specs.Limits.{member_letters}
use Rattle.library_layout.proofs.layouts.ask_letters.Given as goal

abbrev pub invariant-loop-k : goal.invariant-loop-k
invariant-loop-k g l = SpentOn LayoutNames l.bytes member_letters (take l.k l.view.parts) l.budget
