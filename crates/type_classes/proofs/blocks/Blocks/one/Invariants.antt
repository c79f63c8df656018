-- The numbers so far are in order, and of class 0.
use Rattle.std.proofs.Common.{◌≡◌, ℕ, length}
use Rattle.std.specs.List.{range_with_len}
use Rattle.type_classes.specs.Blocks.{at}
use Rattle.type_classes.proofs.blocks.Blocks.one.Given as goal

abbrev pub invariant-loop-number : goal.invariant-loop-number
invariant-loop-number l = record {
  order : l.order.items ≡ range_with_len 0 l.number;
  place : l.place.items ≡ range_with_len 0 l.number;
  len : length l.class.items ≡ l.number;
  class : (x : ℕ) → at l.class.items x ≡ 0;
}
