-- Triples of nodes and a way.
use Rattle.std.proofs.Common.{◌≡◌, ltb, true, length, ℕ, ◌∙◌, ap}
use Rattle.std.proofs.lemmas.Bool.{and_parts, ltb-true, and_from, lt-ltb}
use Rattle.pair_rules.specs.Steps.{Task, Triple}
use Rattle.pair_rules.specs.Stable.{IsInside, is_inside}
use Rattle.abi_types.specs.declared.kind.Way.{Way}

pub IsInside-from : (t : Task) (x : Triple) → is_inside t x ≡ true → IsInside t x
IsInside-from t x e =
    let both = and_parts (ltb x.old (length t.old)) (ltb x.new (length t.new)) e in
    record { old = ltb-true x.old (length t.old) both.0; new = ltb-true x.new (length t.new) both.1 }

pub is_inside-from : (t : Task) (x : Triple) → IsInside t x → is_inside t x ≡ true
is_inside-from t x inside = and_from _ _ (lt-ltb x.old (length t.old) inside.old) (lt-ltb x.new (length t.new) inside.new)

pub triple_eq : (x y : Triple) → x.old ≡ y.old → x.new ≡ y.new → x.way ≡ y.way → x ≡ y
triple_eq x y a b c =
    let mk : ℕ → ℕ → Way → Triple = λ m n w. record { old = m; new = n; way = w } in
    ap (λ m. mk m x.new x.way) a ∙ ap (λ n. mk y.old n x.way) b ∙ ap (mk y.old y.new) c
