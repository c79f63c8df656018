use Rattle.std.proofs.Common.{◌≡◌}
use Rattle.std.specs.List.{range_with_len, list_any}
use Rattle.suppression_text.specs.Classes.{begins_flags}
use Rattle.suppression_text.proofs.classes.has_flags.Given as goal

-- flags so far
abbrev pub invariant-loop-at : goal.invariant-loop-at
invariant-loop-at l = l.flagged ≡ list_any (begins_flags l.line) (range_with_len 0 l.at)
