-- The differences in the aspects so far.
use Rattle.std.proofs.Common.{◌≡◌, ◌++◌, take}
use Rattle.std.specs.Prelude.{option_to_list}
use Rattle.std.specs.List.{flat_map}
use Rattle.type_notes.specs.Entries.{change, plain}
use Rattle.type_notes.proofs.entries.push_changes_in.Given as goal

abbrev pub invariant-loop-aspect : goal.invariant-loop-aspect
invariant-loop-aspect l = l.list ≡ l.fn.list ++ flat_map (λ aspect. option_to_list (change (plain l.pair) aspect)) (take l.aspect-index l.aspects)
