-- A list of faults that has none.
use Rattle.std.proofs.Common.{◌≡◌, ◌∷◌, List, Option, Some, None, refl}
use Rattle.abi_base.specs.declared.fault.Fault.{Fault}
use Rattle.abi_base.specs.Outcome.{first}

pub none_both : (o : Option Fault) (os : List (Option Fault)) → first (o ∷ os) ≡ None → (o ≡ None) × (first os ≡ None)
none_both None os h = (refl, h)
none_both (Some f) os h = absurd cc
