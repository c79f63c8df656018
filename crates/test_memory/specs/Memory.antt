-- What a check in memory requires of two libraries.
use Rattle.std.specs.Prelude.{◌≡◌, ◌≤◌, ℕ, List, [], length, None}
use Rattle.abi_base.specs.Limits.{input_limit, sink_room}
use Rattle.commands.specs.declared.verdict.Verdict.{Verdict}
use Rattle.library_check.specs.Rows.Check.{CheckSays}
use Rattle.library_read.specs.Faults.{library_fault}

-- Both libraries are readable, and the sink in memory has room for any answer of `check` about them.
pub record FitsInMemory (old new : List ℕ) : Type 0 where
  pub old_short : length old ≤ input_limit
  pub new_short : length new ≤ input_limit
  pub old_readable : library_fault old ≡ None
  pub new_readable : library_fault new ≡ None
  pub room : (verdict : Verdict) (text : List ℕ) → CheckSays [] old new [] verdict text → length text ≤ sink_room
