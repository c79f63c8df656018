-- An object inside an aggregate, as plain data.
use Rattle.std.specs.Prelude.{ℕ}
use Rattle.abi_types.specs.Inside.{Inside}
use Rattle.psabi.specs.declared.inside.InnerObject.{InnerObject}

abbrev pub plain_inner : {Ix : Type 0} → (Ix → ℕ) → InnerObject Ix → Inside
plain_inner number_of x = record { bit = x.bit; width = x.width; to = number_of x.to }
