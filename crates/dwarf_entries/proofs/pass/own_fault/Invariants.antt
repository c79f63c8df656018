use Rattle.std.proofs.Common.{◌≡◌, length}
use Rattle.abi_base.proofs.lemmas.Outcomes.{first_from}
use Rattle.dwarf_entries.specs.Pass.{entry_fault, own_fault}
use Rattle.dwarf_entries.proofs.pass.own_fault.Given as goal

abbrev pub invariant-loop-e : goal.invariant-loop-e
invariant-loop-e l = first_from (entry_fault l.source) l.e (length l.source.tree.entries) ≡ own_fault l.source
