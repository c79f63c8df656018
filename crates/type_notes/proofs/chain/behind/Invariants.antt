-- What stands behind the type that was reached stands behind the first one.
use Rattle.std.proofs.Common.{◌≡◌, ◌<◌, ◌-◌, length}
use Rattle.std.specs.Prelude.{IfSome}
use Rattle.type_notes.specs.Chains.{behind}
use Rattle.type_notes.proofs.chain.behind.Given as goal

abbrev pub invariant-chain : goal.invariant-chain
invariant-chain l = record { inside : IfSome l.at (λ e. e < length l.dwarf.tree.entries); same : behind l.dwarf.tree (513 - l.passed) l.at ≡ behind l.dwarf.tree 513 l.fn.from }
