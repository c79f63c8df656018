-- Triples that the test tells to be one are one.
use Rattle.std.proofs.Common.{◌≡◌, ◌==◌, ◌&&◌, true, refl}
use Rattle.std.proofs.lemmas.Bool.{and_parts, and_from, eqb-true, eq-eqb}
use Rattle.abi_types.specs.declared.kind.Way.{Way}
use Rattle.abi_types.specs.declared.kind.Way.TheVariants.{Direct, Pointer}
use Rattle.pair_rules.specs.Steps.{Triple}
use Rattle.pair_explorer.specs.Visits.{same_way, same_triple}
use Rattle.pair_rules.proofs.lemmas.Triples.{triple_eq}

pub same_way-refl : (w : Way) → same_way w w ≡ true
same_way-refl Direct = refl
same_way-refl Pointer = refl

pub same_way-is : (v w : Way) → same_way v w ≡ true → v ≡ w
same_way-is Direct Direct e = refl
same_way-is Direct Pointer e = absurd cc
same_way-is Pointer Direct e = absurd cc
same_way-is Pointer Pointer e = refl

pub same_triple-refl : (x : Triple) → same_triple x x ≡ true
same_triple-refl x = and_from _ _ (and_from _ _ (eq-eqb x.old x.old refl) (eq-eqb x.new x.new refl)) (same_way-refl x.way)

pub same_triple-is : (x y : Triple) → same_triple x y ≡ true → x ≡ y
same_triple-is x y e =
    let all = and_parts (x.old == y.old && x.new == y.new) (same_way x.way y.way) e in
    let nodes = and_parts (x.old == y.old) (x.new == y.new) all.0 in
    triple_eq x y (eqb-true x.old y.old nodes.0) (eqb-true x.new y.new nodes.1) (same_way-is x.way y.way all.1)
