-- The numbers at the places before this one are put.
use Rattle.std.proofs.Common.{◌≡◌, ◌<◌, ℕ, leb, ltb, ◌&&◌, length}
use Rattle.std.specs.Prelude.{if◌then◌else◌}
use Rattle.type_classes.specs.Blocks.{at, class_in}
use Rattle.type_classes.proofs.blocks.Blocks.put_into.Given as goal

abbrev pub invariant-loop-place : goal.invariant-loop-place
invariant-loop-place l = record {
  order : l.self.order ≡ l.fn.self.order;
  place : l.self.place ≡ l.fn.self.place;
  blocks : l.self.blocks ≡ l.fn.self.blocks;
  touched : l.self.touched ≡ l.fn.self.touched;
  len : length l.self.class.items ≡ length l.fn.self.class.items;
  classes : (x : ℕ) → x < length l.fn.self.order.items → at l.self.class.items x ≡ (if leb l.fn.block.first (at l.fn.self.place.items x) && ltb (at l.fn.self.place.items x) l.place then l.class else class_in l.fn.self x);
}
