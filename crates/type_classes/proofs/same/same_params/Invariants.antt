-- The places before this one are the same.
use Rattle.std.proofs.Common.{ℕ, ◌<◌, ◌≡◌, get_or}
use Rattle.abi_types.specs.declared.place.Place.TheVariants as place
use Rattle.type_classes.proofs.same.same_params.Given as goal

abbrev pub invariant-loop-k : goal.invariant-loop-k
invariant-loop-k l = (j : ℕ) → j < l.k → get_or l.one j place.Nothing ≡ get_or l.other j place.Nothing
