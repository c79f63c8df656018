-- The slots so far.
use Rattle.std.proofs.Common.{◌≡◌, ◌<◌, ℕ, length, get_or}
use Rattle.abi_types.specs.declared.place.Slot.TheVariants as slot
use Rattle.psabi.specs.Arguments.{argument_slot}
use Rattle.psabi.proofs.argument_registers.argument_slots.Given as goal

abbrev pub invariant-loop-k : goal.invariant-loop-k
invariant-loop-k l = record {
  many : length l.slots ≡ 8;
  below : (j : ℕ) → j < l.k → get_or l.slots j slot.Unused ≡ argument_slot l.taken l.classes j;
}
