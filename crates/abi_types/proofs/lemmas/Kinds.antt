-- Kinds of types, and what stands inside one.
use Rattle.std.proofs.Common.{◌≡◌, refl, Some}
use Rattle.std.specs.Prelude.{true, false}
use Rattle.abi_types.specs.declared.kind.Kind.{Kind}
use Rattle.abi_types.specs.declared.kind.Kind.TheVariants as kind
use Rattle.abi_types.specs.Forms.{is_aggregate, is_leaf}
use Rattle.abi_types.specs.Inside.{Inside}

pub aggregate-no_leaf : (k : Kind) → is_aggregate k ≡ true → is_leaf k ≡ false
aggregate-no_leaf kind.Structure e = refl
aggregate-no_leaf kind.Union e = refl
aggregate-no_leaf kind.Array e = refl
aggregate-no_leaf kind.Void e = cc
aggregate-no_leaf kind.Scalar e = cc
aggregate-no_leaf kind.Pointer e = cc
aggregate-no_leaf kind.Enumeration e = cc
aggregate-no_leaf kind.Vector e = cc
aggregate-no_leaf kind.Function e = cc

pub same_Some_Inside : (x y : Inside) → Some x ≡ Some y → x ≡ y
same_Some_Inside x y e = cc
