-- The number above all ranks.
use Rattle.std.proofs.Common.{◌≡◌, ◌<◌, ◌≤◌, ◌+◌, ℕ, zero, suc, List, [], ◌∷◌, length, map, get_or, arith, inl, inr, ◌⊎◌, refl}
use Rattle.std.specs.Prelude.{Contains}
use Rattle.std.proofs.lemmas.Bool.{cases_lt}
use Rattle.abi_base.proofs.lemmas.Contained.{in_front, at_front, in_rest, in_none}
use Rattle.type_reach.specs.declared.facts.Facts.{Facts}
use Rattle.type_reach.specs.Facts.{above, rank_in}

pub above-le : (ns : List ℕ) (n : ℕ) → Contains ns n → n + 1 ≤ above ns
unfolding above
above-le [] n h = absurd (in_none n h)
above-le (m ∷ ns) n h = elim (in_front m ns n h) [ inl same ↦ omega (arith, same) | inr later ↦ omega (arith, above-le ns n later) ]

pub above-reached : (ns : List ℕ) → (above ns ≡ 0) ⊎ ((n : ℕ) × Contains ns n × (above ns ≡ n + 1))
unfolding above
above-reached [] = inl refl
above-reached (m ∷ ns) = elim (cases_lt (m + 1) (above ns)) [
  | inl less ↦ elim (above-reached ns) [
    | inl none ↦ absurd (omega (arith, none))
    | inr some ↦ inr (some.0, in_rest m ns some.0 some.1, omega (arith, some.2))
  ]
  | inr most ↦ inr (m, at_front m ns, omega arith)
]

pub above-all : (facts : List Facts) (k : ℕ) (d : Facts) → k < length facts → (get_or facts k d).rank < above (map rank_in facts)
unfolding above
above-all [] k d lt = absurd (omega arith)
above-all (x ∷ xs) zero d lt = omega arith
above-all (x ∷ xs) (suc k) d lt = omega (arith, above-all xs k d (omega arith))
