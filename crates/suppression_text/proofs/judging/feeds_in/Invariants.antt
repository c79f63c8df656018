use Rattle.std.proofs.Common.{◌≡◌, ◌≤◌, count_by, take}
use Rattle.suppression_text.specs.Lines.{is_feed}
use Rattle.suppression_text.proofs.judging.feeds_in.Given as goal

-- the line feeds so far
abbrev pub invariant-loop-byte : goal.invariant-loop-byte
invariant-loop-byte l = (l.count ≡ count_by is_feed (take l.byte-index l.text)) × (l.count ≤ l.byte-index)
