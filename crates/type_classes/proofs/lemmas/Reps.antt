-- Representatives of nodes.
use Rattle.std.proofs.Common.{◌≡◌, ◌≤◌, ℕ, List, length, arith}
use Rattle.std.proofs.lemmas.List.{get_or_past}
use Rattle.type_classes.specs.Classes.{rep_in, PlainClasses, AreSound, rep_of}

pub rep_in-past : (reps : List ℕ) (x : ℕ) → length reps ≤ x → rep_in reps x ≡ x
unfolding rep_in
rep_in-past reps x past = get_or_past reps x x past

-- past the end each number stands for itself
pub rep_of-past : (classes : PlainClasses) (a : ℕ) → AreSound classes → length classes.nodes ≤ a → rep_of classes a ≡ a
unfolding rep_in
rep_of-past classes a sound past = get_or_past classes.reps a a (omega (arith, sound.each))
