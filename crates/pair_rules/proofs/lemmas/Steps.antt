-- A step of an exploration.
use Rattle.std.proofs.Common.{◌≡◌, ℕ, false, refl}
use Rattle.abi_types.specs.Graphs.{view_at}
use Rattle.pair_rules.specs.Steps.{Task, Triple, is_marked, next_of, step}

pub step-from_next : (t : Task) (x : Triple) (i : ℕ) → is_marked t x.old x.way ≡ false → step t x i ≡ next_of (view_at t.old x.old) (view_at t.new x.new) x.way i
unfolding step
step-from_next t x i unmarked = rw unmarked refl
