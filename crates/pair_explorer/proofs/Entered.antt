-- The steps of a loop that adds visits.
use Rattle.std.proofs.Common.{◌≡◌, ℕ, ◌+◌, List, Option, Some, None, refl, add-one}
use Rattle.pair_explorer.specs.declared.visits.Visit.{Visit}
use Rattle.pair_explorer.specs.Adding.{added, added_some, entered}

pub entered-zero : (f : ℕ → Option Visit) (visits : List Visit) → entered f 0 visits ≡ visits
unfolding entered
entered-zero f visits = refl

pub entered-more : (f : ℕ → Option Visit) (n : ℕ) (visits : List Visit) → entered f (n + 1) visits ≡ added_some (entered f n visits) (f n)
unfolding entered
entered-more f n visits = rw add-one refl

pub entered_some : (f : ℕ → Option Visit) (n : ℕ) (base visits more : List Visit) (v : Visit) → f n ≡ Some v → visits ≡ entered f n base → more ≡ added visits v → more ≡ entered f (n + 1) base
entered_some f n base visits more v e so_far new = rw (entered-more f n base, e, ← so_far) new

pub entered_none : (f : ℕ → Option Visit) (n : ℕ) (base visits : List Visit) → f n ≡ None → visits ≡ entered f n base → visits ≡ entered f (n + 1) base
entered_none f n base visits e so_far = rw (entered-more f n base, e) so_far
