-- Each test, both ways.
use Rattle.std.proofs.Common.{◌≡◌, true, subst}
use Rattle.abi_types.specs.declared.kind.Kind.{Kind}
use Rattle.abi_types.specs.declared.kind.Group.{Group}
use Rattle.abi_types.specs.declared.place.Place.{Place}
use Rattle.pair_rules.specs.Same.{same_kind, same_group, same_place}
use Rattle.pair_rules.proofs.SameLemmas.{same_kind-same, same_group-same, same_place-same, equal_from_same_kind, equal_from_same_group, equal_from_same_place}
use Rattle.pair_rules.proofs.laws.the_same_are_equal.Goals as goal

pub returns-clause-kinds : goal.returns-clause-kinds
returns-clause-kinds c a b = (
  equal_from_same_kind a b,
  λ e. let P : Kind → Type 0 = λ x. same_kind a x ≡ true in subst P e (same_kind-same a),
)

pub returns-clause-groups : goal.returns-clause-groups
returns-clause-groups c a b = (
  equal_from_same_group a b,
  λ e. let P : Group → Type 0 = λ x. same_group a x ≡ true in subst P e (same_group-same a),
)

pub returns-clause-places : goal.returns-clause-places
returns-clause-places c a b = (
  equal_from_same_place a b,
  λ e. let P : Place → Type 0 = λ x. same_place a x ≡ true in subst P e (same_place-same a),
)
