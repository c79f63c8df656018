-- The objects of the rows so far.
use Rattle.std.proofs.Common.{◌≡◌, ◌++◌, take}
use Rattle.std.specs.Prelude.{codes}
use Rattle.std.specs.List.{flat_map}
use Rattle.report.specs.declared.row.Row.{Row}
use Rattle.json_report.specs.Breaks.{row_text}
use Rattle.json_report.proofs.breaks.push_others.Given as goal

abbrev pub invariant-loop-row : goal.invariant-loop-row
invariant-loop-row l = l.text.items ≡ l.fn.text.items ++ flat_map (λ (r : Row). codes "," ++ row_text r) (take l.row-index l.rows)
