-- What the type that was reached leads past is what the first one leads past.
use Rattle.std.proofs.Common.{◌≡◌, ◌<◌, ◌-◌, length}
use Rattle.std.specs.Prelude.{IfSome}
use Rattle.type_notes.specs.Chains.{is_passed}
use Rattle.type_notes.proofs.chain.is_passed.Given as goal

abbrev pub invariant-chain : goal.invariant-chain
invariant-chain l = record { inside : IfSome l.at (λ e. e < length l.dwarf.tree.entries); same : is_passed l.dwarf.tree l.tag (513 - l.passed) l.at ≡ is_passed l.dwarf.tree l.tag 513 l.fn.from }
