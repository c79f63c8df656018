-- The registers of the slots so far.
use Rattle.std.proofs.Common.{◌≡◌, ◌++◌, string_bytes}
use Rattle.std.specs.List.{flat_map, range_with_len}
use Rattle.report.specs.Places.{slot_text}
use Rattle.report.proofs.place.push_registers.Given as goal

abbrev pub invariant-loop-k : goal.invariant-loop-k
invariant-loop-k l = string_bytes l.text ≡ string_bytes l.fn.text ++ flat_map (slot_text l.slots) (range_with_len 0 l.k)
