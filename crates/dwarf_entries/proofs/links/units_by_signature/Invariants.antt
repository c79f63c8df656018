use Rattle.std.proofs.Common.{length}
use Rattle.dwarf_tree.specs.Trees.{head_at}
use Rattle.dwarf_entries.specs.Chains.{has_signature}
use Rattle.dwarf_entries.proofs.PlaceLemmas.{KeepFirsts}
use Rattle.dwarf_entries.proofs.links.units_by_signature.Given as goal

abbrev pub invariant-loop-unit : goal.invariant-loop-unit
invariant-loop-unit l = KeepFirsts l.places (λ q k. has_signature q (head_at l.tree k)) l.unit (length l.tree.units)
