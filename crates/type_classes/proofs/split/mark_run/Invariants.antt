-- The numbers so far are marked, and stand beside the key.
use Rattle.std.proofs.Common.{◌≡◌, ◌<◌, ◌≤◌, ℕ, take}
use Rattle.type_classes.specs.Blocks.{len_of, count_of, class_in, is_marked, AreBlocks, ListsMarks}
use Rattle.type_classes.specs.Splits.{key_at, stands_beside}
use Rattle.type_classes.proofs.split.mark_run.Given as goal

abbrev pub invariant-run : goal.invariant-run
invariant-run l = record {
  blocks : AreBlocks l.blocks;
  listed : ListsMarks l.blocks;
  len : len_of l.blocks ≡ len_of l.fn.blocks;
  count : count_of l.blocks ≡ count_of l.fn.blocks;
  classes : (x : ℕ) → class_in l.blocks x ≡ class_in l.fn.blocks x;
  marks : (x : ℕ) → x < len_of l.fn.blocks → is_marked l.blocks x ≡ stands_beside (take l.i l.pairs) (key_at l.pairs l.from) x;
  run : (j : ℕ) → l.from ≤ j → j < l.i → key_at l.pairs j ≡ key_at l.pairs l.from;
}
