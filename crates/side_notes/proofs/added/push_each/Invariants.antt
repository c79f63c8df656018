-- The notes on the exports so far.
use Rattle.std.proofs.Common.{◌≡◌, ◌++◌, take}
use Rattle.std.specs.List.{flat_map}
use Rattle.abi_types.specs.declared.export.Export.{Export}
use Rattle.abi_types.specs.Plain.{plain_export}
use Rattle.side_notes.specs.Added.{notes_if_added}
use Rattle.side_notes.proofs.added.push_each.Given as goal

abbrev pub invariant-loop-export : goal.invariant-loop-export
invariant-loop-export l = l.notes ≡ l.fn.notes ++ flat_map (λ (e : Export). notes_if_added l.old.exports (plain_export e)) (take l.export-index l.exports)
