-- The nodes so far have that of their class.
use Rattle.std.proofs.Common.{◌≡◌, ◌<◌, ℕ, length}
use Rattle.type_classes.specs.Blocks.{at, class_in}
use Rattle.type_classes.proofs.reps.reps_of.Given as goal

abbrev pub invariant-nodes : goal.invariant-nodes
invariant-nodes g l = record {
  len : length l.reps.items ≡ l.node;
  read : (x : ℕ) → x < l.node → at l.reps.items x ≡ at l.list.items (class_in l.blocks x);
}
