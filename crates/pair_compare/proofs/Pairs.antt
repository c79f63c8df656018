-- What the law of typed pairs says.
use Rattle.std.proofs.Common.{◌≡◌, ℕ, Some, slice_get}
use Rattle.std.specs.Prelude.{◌↔◌}
use Rattle.std.specs.List.{Contains}
use Rattle.std.proofs.lemmas.Option.{slice_get_within, get_or_from_slice_get}
use Rattle.pair_rules.specs.Steps.{PlainRoot}
use Rattle.pair_explorer.specs.Scopes.{AreInside, AreAscending}
use Rattle.cert_check.specs.Compatible.{Sides, typed_roots}
use Rattle.cert_check.specs.TypedPairs.{IsTypedPair, HasTypes}

pub record AreTypedPairs : Type 0 where
  pub exact : (s : Sides) (root : PlainRoot) → Contains (typed_roots s) root ↔ IsTypedPair s root
  pub ascending : (s : Sides) → AreAscending (typed_roots s)
  pub nodes : (s : Sides) (root : PlainRoot) → IsTypedPair s root → HasTypes s root

module _ (law : AreTypedPairs) (s : Sides) where
  pub typed_pair : (k : ℕ) (root : PlainRoot) → slice_get (typed_roots s) k ≡ Some root → IsTypedPair s root
  typed_pair k root at = (law.exact s root).0 (k, slice_get_within (typed_roots s) k root at, get_or_from_slice_get (typed_roots s) k root root at)

  pub inside : AreInside s.old.graph s.new.graph (typed_roots s)
  inside k root at = let types = law.nodes s root (typed_pair k root at) in (types.old, types.new)
