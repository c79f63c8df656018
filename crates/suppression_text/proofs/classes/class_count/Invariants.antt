use Rattle.std.proofs.Common.{◌≡◌, ◌≤◌}
use Rattle.std.specs.Prelude.{count_by}
use Rattle.std.specs.List.{range_with_len}
use Rattle.suppression_text.specs.Classes.{is_class}
use Rattle.suppression_text.proofs.classes.class_count.Given as goal

-- the classes so far
abbrev pub invariant-loop-at : goal.invariant-loop-at
invariant-loop-at l = (l.count ≡ count_by (is_class l.text) (range_with_len 0 l.at)) × (l.count ≤ l.at)
