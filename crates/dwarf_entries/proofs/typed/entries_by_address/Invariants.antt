use Rattle.std.proofs.Common.{length}
use Rattle.dwarf_entries.specs.Addresses.{is_typed_at}
use Rattle.dwarf_entries.proofs.PlaceLemmas.{KeepFirsts}
use Rattle.dwarf_entries.proofs.typed.entries_by_address.Given as goal

abbrev pub invariant-loop-e : goal.invariant-loop-e
invariant-loop-e l = KeepFirsts l.places (is_typed_at l.source) l.e (length l.source.tree.entries)
