-- The steps so far and those to come are those of the path.
use Rattle.std.proofs.Common.{◌≡◌, ◌++◌, drop}
use Rattle.json_report.specs.Breaks.{steps_behind}
use Rattle.json_report.proofs.breaks.push_steps.Given as goal

abbrev pub invariant-loop-i : goal.invariant-loop-i
invariant-loop-i l = l.text.items ++ steps_behind l.passed (drop l.i l.path) ≡ l.fn.text.items ++ steps_behind 0 l.path
